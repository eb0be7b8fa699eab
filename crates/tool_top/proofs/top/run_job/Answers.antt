-- The run's names and interval are those of the job.
use Rattle.std.proofs.Common.{◌∙◌}
use Rattle.tool_top.proofs.Conclusions.{no_interval}
use Rattle.tool_top.proofs.Finished.{leaves-job}
use Rattle.tool_top.proofs.top.run_job.Goals as goal

pub returns-clause-leaves : goal.returns-clause-leaves
returns-clause-leaves g c =
    leaves-job c.args.job.now c.args.start c.interval_for.result c.as_str.result.now
    c.as_str-2.result.now c.run_start.result (g.F.Folder.held c.args.folder.now)
    (g.F.Folder.held c.run_start.new.folder)
    c.interval_for.ensures.interval (c.as_str.ensures.value ∙ c.requires.names.first_is)
    (c.as_str-2.ensures.value ∙ c.requires.names.second_is) c.run_start.ensures.leaves

pub returns-clause-apart : goal.returns-clause-apart
returns-clause-apart g c = λ some. c.run_start.ensures.apart (c.interval_for.ensures.interval ∙
    no_interval c.args.job.now.tables c.args.job.now.backup some)
