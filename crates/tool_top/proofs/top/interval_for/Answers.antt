use Rattle.tool_top.proofs.Conclusions.{at_least_one}
use Rattle.tool_top.proofs.top.interval_for.Goals as goal

pub returns-in-None-clause-some : goal.returns-in-None-clause-some
returns-in-None-clause-some c = at_least_one c.args.job.now.backup c.requires.backup
