-- Each way out of the run of a job is an end of its plan, and one that the command has an end for.
use Rattle.std.specs.Prelude.{Some}
use Rattle.outside.specs.Causes.{Rose}
use Rattle.lift_core.specs.Ends.{finished}
use Rattle.backups.specs.declared.starts.Start.TheVariants.{Fresh}
use Rattle.tool_top.specs.Plan.{project_of}
use Rattle.tool_top.specs.Outputs.{to_write}
use Rattle.tool_top.specs.Inside.Writing.{outputs_of}
use Rattle.tool_top.proofs.Finished.{run_fault, run_not_out, tells-run, ends-run, ends-memory, cut_is_not_out, ends-cut, ends-told, tells-told}
use Rattle.tool_top.proofs.Wanted.{finish_of}
use Rattle.stand_tool.proofs.EndsOfRuns.{run-stopped, run-memory, run-cut, run-told}
use Rattle.stand_tool.proofs.top.carry_out.Goals as goal

pub returns-in_err-finish-clause-ends : goal.returns-in_err-finish-clause-ends
returns-in_err-finish-clause-ends g c =
    λ tool input stored shaped starts. ends-run tool c.args.job.now input stored (Fresh c.args.system) starts
    (g.F.Folder.held c.args.folder.now) (g.F.Folder.held c.args.folder.now) (g.O.Sink.held c.args.out.now)
    c.in_err-finish.field-0.0 c.from_residual.result c.in_err-finish.ensures.comes
    (c.in_err-finish.ensures.leaves (g.F.Folder.held c.args.folder.now)) c.from_residual.ensures.1

pub returns-in_err-finish-clause-tells : goal.returns-in_err-finish-clause-tells
returns-in_err-finish-clause-tells g c =
    tells-run (Some c.args.job.now) (g.O.Sink.held c.args.out.now) c.from_residual.result c.in_err-finish.field-0.0 c.from_residual.ensures.1

pub returns-in_err-finish-clause-run : goal.returns-in_err-finish-clause-run
returns-in_err-finish-clause-run g c = run-stopped c.from_residual.result c.in_err-finish.field-0.0 c.from_residual.ensures.1

pub returns-in_err-finish-clause-folder_fault : goal.returns-in_err-finish-clause-folder_fault
returns-in_err-finish-clause-folder_fault g c =
    λ p is other. run_fault c.from_residual.result c.in_err-finish.field-0.0 (Rose (g.F.Folder.faults c.args.folder.now)
    (g.F.Folder.faults c.args.folder.now)) p c.from_residual.ensures.1
    (λ failed. absurd (c.in_err-finish.ensures.sure failed)) is

pub returns-in_err-finish-clause-out_fault : goal.returns-in_err-finish-clause-out_fault
returns-in_err-finish-clause-out_fault g c = λ is. absurd (run_not_out c.from_residual.result
    c.in_err-finish.field-0.0 c.from_residual.ensures.1 is)

pub returns-in_err-outputs-clause-ends : goal.returns-in_err-outputs-clause-ends
returns-in_err-outputs-clause-ends g c =
    λ tool input stored shaped starts. ends-memory tool c.args.job.now input stored (Fresh c.args.system)
    starts (g.F.Folder.held c.args.folder.now) (g.F.Folder.held c.args.folder.now) (g.O.Sink.held c.args.out.now)
    (finished c.in_ok-finish.finish.rows.rows c.in_ok-finish.finish.pairs)
    c.from_residual-in_err-outputs.result (c.in_ok-finish.ensures.leaves (g.F.Folder.held c.args.folder.now))
    c.from_residual-in_err-outputs.ensures.1

pub returns-in_err-outputs-clause-run : goal.returns-in_err-outputs-clause-run
returns-in_err-outputs-clause-run g c = run-memory c.from_residual-in_err-outputs.result c.from_residual-in_err-outputs.ensures.1

pub returns-in_err-write_job-clause-ends : goal.returns-in_err-write_job-clause-ends
returns-in_err-write_job-clause-ends g c =
    λ tool input stored shaped starts.
    ends-cut tool c.args.job.now input stored c.in_ok-finish.finish.system
    c.in_ok-finish.finish.rows.rows (outputs_of c.in_ok-outputs.outputs)
    c.in_ok-outputs.ensures.files c.in_ok-finish.finish.pairs
    (finish_of tool c.args.job.now input stored shaped (Fresh c.args.system) c.in_ok-finish.finish
    (outputs_of c.in_ok-outputs.outputs) starts c.in_ok-finish.ensures.comes c.in_ok-finish.ensures.system
    (λ defined. c.in_ok-finish.ensures.rows) c.in_ok-finish.ensures.sound c.in_ok-outputs.ensures.files)
    (g.F.Folder.held c.args.folder.now) (g.F.Folder.held c.args.folder.now) (g.F.Folder.held
    c.write_job.new.folder) (g.O.Sink.held c.args.out.now) c.in_err-write_job.field-0.0
    c.from_residual-in_err-write_job.result (c.in_ok-finish.ensures.leaves (g.F.Folder.held c.args.folder.now))
    c.in_err-write_job.ensures.refused c.from_residual-in_err-write_job.ensures.1

pub returns-in_err-write_job-clause-run : goal.returns-in_err-write_job-clause-run
returns-in_err-write_job-clause-run g c =
    run-cut (project_of c.args.job.now) (to_write c.args.job.now.tables (outputs_of c.in_ok-outputs.outputs))
    (g.F.Folder.held c.args.folder.now) (g.F.Folder.held c.write_job.new.folder) c.from_residual-in_err-write_job.result
    c.in_err-write_job.field-0.0 c.in_err-write_job.ensures.refused c.from_residual-in_err-write_job.ensures.1

pub returns-in_err-write_job-clause-out_fault : goal.returns-in_err-write_job-clause-out_fault
returns-in_err-write_job-clause-out_fault g c =
    λ is. absurd (cut_is_not_out c.in_ok-finish.finish.system c.in_ok-finish.finish.rows.rows
    (project_of c.args.job.now) c.args.job.now.tables (outputs_of c.in_ok-outputs.outputs)
    c.in_ok-outputs.ensures.files
    c.from_residual-in_err-write_job.result c.in_err-write_job.field-0.0 (g.F.Folder.held
    c.args.folder.now) (g.F.Folder.held c.write_job.new.folder) c.in_err-write_job.ensures.refused
    c.from_residual-in_err-write_job.ensures.1 is)

pub returns-clause-ends : goal.returns-clause-ends
returns-clause-ends g c =
    λ tool input stored shaped starts.
    ends-told tool c.args.job.now input stored c.in_ok-finish.finish.system
    c.in_ok-finish.finish.rows.rows (outputs_of c.in_ok-outputs.outputs)
    c.in_ok-outputs.ensures.files c.in_ok-finish.finish.pairs
    (finish_of tool c.args.job.now input stored shaped (Fresh c.args.system) c.in_ok-finish.finish
    (outputs_of c.in_ok-outputs.outputs) starts c.in_ok-finish.ensures.comes c.in_ok-finish.ensures.system
    (λ defined. c.in_ok-finish.ensures.rows) c.in_ok-finish.ensures.sound c.in_ok-outputs.ensures.files)
    (g.F.Folder.held c.args.folder.now) (g.F.Folder.held c.args.folder.now) (g.F.Folder.held
    c.write_job.new.folder) (g.O.Sink.held c.args.out.now) (g.O.Sink.held c.tell.new.out) c.tell.result
    (c.in_ok-finish.ensures.leaves (g.F.Folder.held c.args.folder.now)) c.in_ok-write_job.ensures.done c.tell.ensures.told

pub returns-clause-tells : goal.returns-clause-tells
returns-clause-tells g c =
    tells-told c.args.job.now (outputs_of c.in_ok-outputs.outputs) c.in_ok-finish.finish.pairs
    (g.O.Sink.held c.args.out.now) (g.O.Sink.held c.tell.new.out) c.tell.result c.tell.ensures.told

pub returns-clause-run : goal.returns-clause-run
returns-clause-run g c =
    run-told c.args.job.now (outputs_of c.in_ok-outputs.outputs) c.in_ok-finish.finish.pairs
    (g.O.Sink.held c.args.out.now) (g.O.Sink.held c.tell.new.out) c.tell.result c.tell.ensures.told
