use Rattle.std.proofs.Common.{rules}
use Rattle.tool_frame.proofs.outputs.write_output.Goals as goal

pub returns-clause-done : goal.returns-clause-done
returns-clause-done c = search rules
