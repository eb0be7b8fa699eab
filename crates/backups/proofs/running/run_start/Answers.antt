-- What the run from its first stage says of the run from the start.
use Rattle.std.proofs.Common.{◌≡◌, sym, subst}
use Rattle.std.specs.Prelude.{IfSome, IfOk, None}
use Rattle.lift_run.specs.Runs.{bounds, IsOfSystem}
use Rattle.backups.specs.declared.starts.Slot.{Slot}
use Rattle.backups.specs.Starts.{StartComesTo, system_of}
use Rattle.backups.specs.Standing.{turns_from, LeavesRun, ended, came_to}
use Rattle.backups.proofs.Coming.{comes_from, system_from, sound_from, leaves_from, leaves_before}
use Rattle.backups.proofs.running.run_start.Goals as goal

pub returns-in-Ok-clause-comes : goal.returns-in-Ok-clause-comes
returns-in-Ok-clause-comes g c =
    comes_from (bounds c.args.limits) c.args.start c.in-Ok.from (ended c.run_from.result)
    c.in-Ok.ensures.begins c.run_from.ensures.walk c.run_from.ensures.defined c.in-Ok.ensures.defined

pub returns-in-Ok-clause-system : goal.returns-in-Ok-clause-system
returns-in-Ok-clause-system g c = system_from c.args.start c.in-Ok.from c.run_from.result
    c.in-Ok.ensures.begins c.run_from.ensures.system

pub returns-in-Ok-clause-rows : goal.returns-in-Ok-clause-rows
returns-in-Ok-clause-rows g c = λ d. c.run_from.ensures.rows (c.in-Ok.ensures.defined d)

pub returns-in-Ok-clause-sound : goal.returns-in-Ok-clause-sound
returns-in-Ok-clause-sound g c =
    sound_from (bounds c.args.limits) c.args.start c.run_from.result c.begin.ensures.kept
    (system_from c.args.start c.in-Ok.from c.run_from.result c.in-Ok.ensures.begins
    c.run_from.ensures.system)
    (comes_from (bounds c.args.limits) c.args.start c.in-Ok.from (ended c.run_from.result)
    c.in-Ok.ensures.begins c.run_from.ensures.walk c.run_from.ensures.defined c.in-Ok.ensures.defined)

pub returns-in-Ok-clause-leaves : goal.returns-in-Ok-clause-leaves
returns-in-Ok-clause-leaves g c =
    subst (λ (slot : Slot). IfSome (g.F.Folder.held c.args.folder.now) (λ files. LeavesRun
    (turns_from slot c.args.plan.interval c.args.plan.first.now c.args.plan.second.now) (bounds
    c.args.limits) c.args.start (came_to c.args.plan.first.now c.args.plan.second.now
    c.run_from.result) files (g.F.Folder.held c.run_from.new.folder)))
    c.first_slot-slot.ensures
    (leaves_from (turns_from c.first_slot-slot.result c.args.plan.interval c.args.plan.first.now
    c.args.plan.second.now) (bounds c.args.limits) c.args.start c.in-Ok.from (came_to
    c.args.plan.first.now c.args.plan.second.now c.run_from.result)
    (g.F.Folder.held c.args.folder.now) (g.F.Folder.held c.run_from.new.folder)
    c.in-Ok.ensures.begins c.run_from.ensures.leaves)

pub returns-in-Err-clause-leaves : goal.returns-in-Err-clause-leaves
returns-in-Err-clause-leaves g c =
    leaves_before (bounds c.args.limits) c.args.start c.first_slot-slot.result c.args.plan.interval
    c.args.plan.first.now c.args.plan.second.now (g.F.Folder.held c.args.folder.now)
    c.first_slot-slot.ensures
