-- A cell below 0 is no count, and all others are.
use Rattle.std.proofs.Common.{arith, refl, ap, sym, ◌∙◌, get_or, rules, SFits, w64, to_z-of_z}
use Rattle.std.specs.Prelude.{pos, int_lt}
use Rattle.restart_file.proofs.CountLines.{counts_alone, no_count_below}
use Rattle.restart_file.proofs.counts.counts_of.Goals as goal

pub returns-then-cells-i-lt0-clause-complete : goal.returns-then-cells-i-lt0-clause-complete
returns-then-cells-i-lt0-clause-complete c = λ ns is.
    let fits : SFits w64 (get_or c.args.cells.now c.loop-i.i (pos 0)) = search rules in
    absurd (no_count_below c.args.cells.now ns c.loop-i.i is (omega (arith, c.loop-i-test.true)) (ap (λ x. int_lt x (pos 0)) (sym (to_z-of_z fits)) ∙ c.if-cells-i-lt0.true))

pub returns-clause-complete : goal.returns-clause-complete
returns-clause-complete c = λ ns is. (
  refl,
  counts_alone c.args.cells.now c.loop-i.counts ns c.loop-i.i c.loop-i.invariant (omega (arith, c.loop-i-test.false)) (omega (arith, c.requires, c.loop-i.auto.counts)) is,
)
