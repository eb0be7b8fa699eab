use Rattle.std.proofs.Common.{rules}
use Rattle.decompose_tool.proofs.checking.is_capped.Goals as goal

pub returns-in-Some : goal.returns-in-Some
returns-in-Some c = search rules
