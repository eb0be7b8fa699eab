-- The next norm is out of range, or its pairs are more than the limit.
use Rattle.std.proofs.Common.{subst, arith}
use Rattle.std.specs.Prelude.{Some}
use Rattle.stage_store.specs.Answers.{IsNext}
use Rattle.stage_store.specs.declared.stage.Next.TheVariants.{Norm, Overflow}
use Rattle.lift_run.specs.Runs.{bounds}
use Rattle.lift_run.proofs.Walking.{over_norm, over_pairs}
use Rattle.lift_run.proofs.stages.next_within.Goals as goal

pub returns-in-Some-Overflow-clause-next : goal.returns-in-Some-Overflow-clause-next
returns-in-Some-Overflow-clause-next c =
    let next : IsNext c.args.stage.now (Some (Overflow c.in-Some-Overflow.norm)) = subst (λ n. IsNext c.args.stage.now (Some n)) c.in-Some-Overflow.field-0-is c.in-Some-Overflow.ensures in
    over_norm (bounds c.args.limits) c.args.stage.now _ c.in-Some-Overflow.norm (omega arith) next.0 next.1

pub returns-then-needed-limits-clause-next : goal.returns-then-needed-limits-clause-next
returns-then-needed-limits-clause-next c =
    let next : IsNext c.args.stage.now (Some (Norm c.in-Some-Norm.norm)) = subst (λ n. IsNext c.args.stage.now (Some n)) c.in-Some-Norm.field-0-is c.in-Some-Norm.ensures in
    over_pairs (bounds c.args.limits) c.args.stage.now _ c.in-Some-Norm.norm _ (omega arith) next.0 next.1 (omega arith) (omega arith)
