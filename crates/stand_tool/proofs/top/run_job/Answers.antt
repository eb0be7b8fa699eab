use Rattle.stand_tool.proofs.PlainJobs.{leaves_plain}
use Rattle.stand_tool.proofs.top.run_job.Goals as goal

pub returns-clause-leaves : goal.returns-clause-leaves
returns-clause-leaves g c = leaves_plain c.args.job.now c.args.system c.run_fresh.result c.requires.plain c.run_fresh.ensures.leaves
