-- Part behind part the writer gets the whole text. Assumes nothing.
use Rattle.std.proofs.Common.{◌++◌, take, subst, rules, arith}
use Rattle.std.specs.Prelude.{IsOk}
use Rattle.std.proofs.KnownBytes.{Appends-trans}
use Rattle.std.proofs.lemmas.Result.{on_ok_weaker}
use Rattle.std.specs.Io.KnownBytes.{Appends}
use Rattle.plan_answer.proofs.Printing.{remembers_more, held_before}
use Rattle.plan_answer.proofs.Texts.{part_goes_on, whole_text}
use Rattle.plan_answer.proofs.print.print_answer.Goals as goal

pub loop-at-preserved : goal.loop-at-preserved
loop-at-preserved g c =
    let here = c.loop-at.invariant in
    let part = c.put_part-part in
    let well : IsOk c.print.result = search rules in
    record {
      remembered = remembers_more here.remembered c.print.ensures.remembered;
      bytes = held_before c.print.ensures.remembered well here.bytes (λ before. (
        before.0 ++ take part.result.end part.new.text,
        part_goes_on before.0 part.ensures before.1,
        Appends-trans _ _ _ _ _ before.2 c.in_ok-print.ensures.bytes,
      ));
    }

pub returns-clause-bytes : goal.returns-clause-bytes
returns-clause-bytes g c =
    on_ok_weaker c.loop-at.to.so_far
    (λ before. subst (Appends _ _) (whole_text c.args.answer c.args.tape.now before.0 c.loop-at.at c.requires.tape_in_bounds (omega arith) before.1) before.2)
    c.loop-at.invariant.bytes
