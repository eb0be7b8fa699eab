use Rattle.decompose_tool.proofs.Solving.{nothing_is_left}
use Rattle.decompose_tool.proofs.laws.solution_law.Goals as goal

pub returns : goal.returns
returns c = nothing_is_left
