use Rattle.std.proofs.Common.{rules}
use Rattle.decompose_tool.proofs.checking.check_all.Goals as goal

pub returns : goal.returns
returns c = search rules
