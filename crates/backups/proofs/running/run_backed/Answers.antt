-- The Keep ends with the folder that it was lent, and the folder has what the Keep was told.
use Rattle.std.proofs.Common.{◌≡◌, ◌∙◌, ℕ, List, ◌∷◌, [], sym, ap, subst}
use Rattle.std.specs.Prelude.{Option, Some, Result, IfSome}
use Rattle.std.specs.Option.{ok_or}
use Rattle.outside.specs.Files.{Files}
use Rattle.lift_core.specs.Ends.{End}
use Rattle.lift_run.specs.Runs.{bounds, end_of}
use Rattle.backups.specs.declared.keeper.BackupState.{BackupState}
use Rattle.backups.specs.declared.starts.Slot.{Slot}
use Rattle.backups.specs.Starts.{slot_name}
use Rattle.backups.specs.Standing.{turns_from, LeavesFrom, came_to}
use Rattle.backups.proofs.Leaving.{leaves_all, same_loan_all}
use Rattle.backups.proofs.Coming.{came_of, stop_cause}
use Rattle.backups.proofs.running.run_backed.Goals as goal

pub returns-clause-cause : goal.returns-clause-cause
returns-clause-cause g c =
    let old : BackupState = record {
      lent = c.new-keep.result.folder.ghost_name;
      files = g.F.Folder.held c.new-keep.result.folder.now;
      names = c.new-keep.result.first.now ∷ c.new-keep.result.second.now ∷ [];
      slot = c.new-keep.result.slot;
      interval = c.new-keep.result.interval;
      left = c.new-keep.result.left;
    } in
    let now : BackupState = record {
      lent = c.run-answer.new.keep.folder.ghost_name;
      files = g.F.Folder.held c.run-answer.new.keep.folder.now;
      names = c.run-answer.new.keep.first.now ∷ c.run-answer.new.keep.second.now ∷ [];
      slot = c.run-answer.new.keep.slot;
      interval = c.run-answer.new.keep.interval;
      left = c.run-answer.new.keep.left;
    } in
    let names : c.new-keep.result.first.now ∷ c.new-keep.result.second.now ∷ [] ≡
    c.args.plan.first.now ∷ c.args.plan.second.now ∷ [] = λ j. c.new-keep.ensures.names.0 j ∷
    c.new-keep.ensures.names.1 j ∷ [] in
    let loan : c.run-answer.new.keep.folder.ghost_name ≡ c.new-keep.result.folder.ghost_name =
    same_loan_all (bounds c.args.limits) c.args.from c.run-answer.result old now (g.F.Folder.held
    c.args.folder.now) c.args.interval c.args.slot c.args.plan.first.now c.args.plan.second.now
    (ap g.F.Folder.held c.new-keep.ensures.folder) names c.new-keep.ensures.slot
    c.new-keep.ensures.interval.0 c.new-keep.ensures.interval.1 c.run-answer.ensures.kept in
    let same = c.folder-1.given.1 (sym c.new-keep.ensures.same_reference ∙ sym loan) in
    stop_cause c.stopped_at.result c.run-answer.result (g.F.Folder.faults
    c.new-keep.result.folder.now) (g.F.Folder.faults c.run-answer.new.keep.folder.now)
    (g.F.Folder.faults c.args.folder.now) (g.F.Folder.faults c.folder-1.given.0)
    c.stopped_at.ensures.ended (ap g.F.Folder.faults c.new-keep.ensures.folder) (ap
    g.F.Folder.faults (sym same)) c.run-answer.ensures.cause

pub returns-clause-leaves : goal.returns-clause-leaves
returns-clause-leaves g c =
    let old : BackupState = record {
      lent = c.new-keep.result.folder.ghost_name;
      files = g.F.Folder.held c.new-keep.result.folder.now;
      names = c.new-keep.result.first.now ∷ c.new-keep.result.second.now ∷ [];
      slot = c.new-keep.result.slot;
      interval = c.new-keep.result.interval;
      left = c.new-keep.result.left;
    } in
    let now : BackupState = record {
      lent = c.run-answer.new.keep.folder.ghost_name;
      files = g.F.Folder.held c.run-answer.new.keep.folder.now;
      names = c.run-answer.new.keep.first.now ∷ c.run-answer.new.keep.second.now ∷ [];
      slot = c.run-answer.new.keep.slot;
      interval = c.run-answer.new.keep.interval;
      left = c.run-answer.new.keep.left;
    } in
    let names : c.new-keep.result.first.now ∷ c.new-keep.result.second.now ∷ [] ≡
    c.args.plan.first.now ∷ c.args.plan.second.now ∷ [] = λ j. c.new-keep.ensures.names.0 j ∷
    c.new-keep.ensures.names.1 j ∷ [] in
    let loan : c.run-answer.new.keep.folder.ghost_name ≡ c.new-keep.result.folder.ghost_name =
    same_loan_all (bounds c.args.limits) c.args.from c.run-answer.result old now (g.F.Folder.held
    c.args.folder.now) c.args.interval c.args.slot c.args.plan.first.now c.args.plan.second.now
    (ap g.F.Folder.held c.new-keep.ensures.folder) names c.new-keep.ensures.slot
    c.new-keep.ensures.interval.0 c.new-keep.ensures.interval.1 c.run-answer.ensures.kept in
    let same = c.folder-1.given.1 (sym c.new-keep.ensures.same_reference ∙ sym loan) in
    let came : came_to c.args.plan.first.now c.args.plan.second.now c.stopped_at.result ≡
    ok_or (end_of c.run-answer.result) (slot_name c.run-answer.new.keep.slot c.args.plan.first.now
    c.args.plan.second.now) = came_of c.args.plan.first.now c.args.plan.second.now
    c.stopped_at.result c.run-answer.result c.next_slot.result c.stopped_at.ensures.ended
    c.stopped_at.ensures.next ∙ ap (λ (k : Slot). ok_or (end_of c.run-answer.result) (slot_name k
    c.args.plan.first.now c.args.plan.second.now)) c.next_slot.ensures in
    let left : IfSome (g.F.Folder.held c.args.folder.now) (λ files. LeavesFrom (turns_from
    c.args.slot (Some c.args.interval) c.args.plan.first.now c.args.plan.second.now) (bounds
    c.args.limits) c.args.from (ok_or (end_of c.run-answer.result) (slot_name
    c.run-answer.new.keep.slot c.args.plan.first.now c.args.plan.second.now)) files (g.F.Folder.held
    c.run-answer.new.keep.folder.now)) =
    leaves_all (bounds c.args.limits) c.args.from c.run-answer.result old now (g.F.Folder.held
    c.args.folder.now) c.args.interval c.args.slot c.args.plan.first.now c.args.plan.second.now
    (ap g.F.Folder.held c.new-keep.ensures.folder) names c.new-keep.ensures.slot
    c.new-keep.ensures.interval.0 c.new-keep.ensures.interval.1 c.run-answer.ensures.kept in
    subst (λ (a : Result End (List ℕ)). IfSome (g.F.Folder.held c.args.folder.now) (λ files.
    LeavesFrom (turns_from c.args.slot (Some c.args.interval) c.args.plan.first.now
    c.args.plan.second.now) (bounds c.args.limits) c.args.from a files (g.F.Folder.held
    c.folder-1.given.0)))
    (sym came)
    (subst (λ (y : Option Files). IfSome (g.F.Folder.held c.args.folder.now) (λ files. LeavesFrom
    (turns_from c.args.slot (Some c.args.interval) c.args.plan.first.now c.args.plan.second.now)
    (bounds c.args.limits) c.args.from (ok_or (end_of c.run-answer.result) (slot_name
    c.run-answer.new.keep.slot c.args.plan.first.now c.args.plan.second.now)) files y))
    (ap g.F.Folder.held (sym same)) left)
