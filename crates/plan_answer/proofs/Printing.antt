-- Prints one after the other, by what a printer remembers.
-- Assumes nothing.
use Rattle.std.proofs.Common.{refl, sym, subst, ◌∙◌}
use Rattle.std.specs.Prelude.{Result, Ok, Err, IsOk, IsErr, OnOk}
use Rattle.streams.specs.declared.output.NotWhole.{NotWhole}
use Rattle.streams.specs.declared.output.Printer.{Printer}
use Rattle.streams.specs.Printing.{Remembers}

module _ {W E : Type 0} {a b c : Printer W E} {ended : Result (Unit {0}) NotWhole} where
  -- what two prints remember
  pub remembers_more : Remembers a b b.so_far → Remembers b c ended → Remembers a c c.so_far
  remembers_more first more =
      record {
        so_far = refl;
        going = λ ok. first.going (more.going (subst IsOk more.so_far ok));
        stopped = λ bad. let same = first.stopped bad in more.stopped (subst (λ (p : Printer W E). IsErr p.so_far) (sym same) bad) ∙ same;
      }

all_well : {P : Type 0} (r : Result (Unit {0}) NotWhole) → IsOk r → OnOk r P → P
all_well (Ok x) ok p = p
all_well (Err e) ok p = cc

where_well : {P : Type 0} (r : Result (Unit {0}) NotWhole) → P → OnOk r P
where_well (Ok x) p = p
where_well (Err e) p = tt

-- what held where all was written before a print that ended well
pub held_before : {W E : Type 0} {b c : Printer W E} {P Q : Type 0} {ended : Result (Unit {0}) NotWhole} → Remembers b c ended → IsOk ended → OnOk b.so_far P → (P → Q) → OnOk c.so_far Q
held_before {b = b} {c = c} remembered ok before more = where_well c.so_far (more (all_well b.so_far (remembered.going ok) before))
