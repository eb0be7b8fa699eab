use Rattle.std.proofs.Common.{rules}
use Rattle.tool_frame.proofs.wordings.shape_wording.Goals as goal

pub returns : goal.returns
returns c = search rules
