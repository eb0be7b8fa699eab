use Rattle.std.proofs.Common.{rules}
use Rattle.tool_frame.proofs.lines.put_message.Goals as goal

pub returns-in-Some-clause-done : goal.returns-in-Some-clause-done
returns-in-Some-clause-done c = search rules
