use Rattle.std.proofs.Common.{rules}
use Rattle.tool_frame.proofs.wordings.text_wording.Goals as goal

pub returns-in-NotCap : goal.returns-in-NotCap
returns-in-NotCap c = search rules

pub returns-in-TooManyRows : goal.returns-in-TooManyRows
returns-in-TooManyRows c = search rules
