-- `plan_text::piece::Line::digits` meets its contract. Assumes nothing.
use Rattle.std.proofs.Common.{◌≡◌, ℕ, refl, ◌+◌, ◌-◌, ap, ◌∙◌, arith, length-drop, length-set}
use Rattle.std.proofs.Math.Seq.{length-take-le}
use Rattle.plan_text.specs.Text.{digits}
use Rattle.plan_text.proofs.Pieces.{puts, digits_placed}
use Rattle.plan_text.proofs.piece.Line.digits.Goals as goal

pub returns : goal.returns
returns c =
    let a = c.args.self.now in
    let size : a.end + 1 + c.args.size - (a.end + 1) ≡ c.args.size = omega arith in
    let filled : c.put_digits.new.places ≡ digits c.args.radix c.args.size c.args.n = c.put_digits.ensures ∙ ap (λ (k : _). digits c.args.radix k c.args.n) (length-take-le _ _ (omega (arith, size, length-drop {A = ℕ}, length-set {A = ℕ})) ∙ size) in
    puts refl (rw size (digits_placed c.args.radix c.args.size c.args.n filled c.requires.room))
