-- Without an interval the run is alone, and with one it has its backups.
use Rattle.std.proofs.Common.{◌≡◌, ◌∙◌, ℕ, sym, subst, arith}
use Rattle.std.specs.Prelude.{Option, Some, None, Result, IfSome}
use Rattle.outside.specs.Causes.{Rose}
use Rattle.stage_store.specs.declared.stage.Finish.{Finish}
use Rattle.lift_run.specs.declared.ends.RunEnd.{RunEnd}
use Rattle.lift_run.specs.Runs.{bounds, AnswersWalk, AnswersEnd, KeepsSystem, HasAllSolutions}
use Rattle.backups.specs.Standing.{turns_from, LeavesFrom, came_to}
use Rattle.backups.proofs.Coming.{of_ended, alone_leaves, alone_calm}
use Rattle.backups.proofs.running.run_from.Goals as goal

pub returns-in-None-clause-walk : goal.returns-in-None-clause-walk
returns-in-None-clause-walk g c = subst (λ (a : Result Finish RunEnd). AnswersWalk (bounds
    c.args.limits) c.args.from a) (sym c.stopped_at.ensures.ended) c.run_alone.ensures.walk

pub returns-in-None-clause-defined : goal.returns-in-None-clause-defined
returns-in-None-clause-defined g c = λ d. subst (λ (a : Result Finish RunEnd). AnswersEnd (bounds
    c.args.limits) c.args.from a) (sym c.stopped_at.ensures.ended) (c.run_alone.ensures.defined d)

pub returns-in-None-clause-system : goal.returns-in-None-clause-system
returns-in-None-clause-system g c = of_ended (KeepsSystem c.args.from) c.stopped_at.result
    c.run_alone.result c.stopped_at.ensures.ended c.run_alone.ensures.system

pub returns-in-None-clause-rows : goal.returns-in-None-clause-rows
returns-in-None-clause-rows g c = λ d. of_ended HasAllSolutions c.stopped_at.result
    c.run_alone.result c.stopped_at.ensures.ended (c.run_alone.ensures.rows d)

pub returns-in-None-clause-leaves : goal.returns-in-None-clause-leaves
returns-in-None-clause-leaves g c =
    alone_leaves (bounds c.args.limits) c.args.from c.stopped_at.result c.run_alone.result
    c.args.slot c.args.plan.interval c.args.plan.first.now c.args.plan.second.now
    (g.F.Folder.held c.args.folder.now)
    c.in-None.is c.stopped_at.ensures.ended c.stopped_at.ensures.next c.run_alone.ensures.leaves

pub returns-in-None-clause-cause : goal.returns-in-None-clause-cause
returns-in-None-clause-cause g c = record {
  later = omega arith;
  failed = alone_calm c.stopped_at.result c.run_alone.result (Rose (g.F.Folder.faults
      c.args.folder.now) (g.F.Folder.faults c.args.folder.now)) c.stopped_at.ensures.ended c.run_alone.ensures.sure;
}

pub returns-in-Some-clause-leaves : goal.returns-in-Some-clause-leaves
returns-in-Some-clause-leaves g c =
    subst (λ (i : Option ℕ). IfSome (g.F.Folder.held c.args.folder.now) (λ files. LeavesFrom
    (turns_from c.args.slot i c.args.plan.first.now c.args.plan.second.now) (bounds
    c.args.limits) c.args.from (came_to c.args.plan.first.now c.args.plan.second.now
    c.run_backed.result) files (g.F.Folder.held c.run_backed.new.folder)))
    (sym c.in-Some.is) c.run_backed.ensures.leaves

pub returns-in-Some-clause-apart : goal.returns-in-Some-clause-apart
returns-in-Some-clause-apart g c = λ none. absurd (let e : Some c.in-Some.interval ≡ None = sym
    c.in-Some.is ∙ none in cc)
