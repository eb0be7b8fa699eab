use Rattle.std.proofs.Common.{rules}
use Rattle.system_files.proofs.systems.read_input.Goals as goal

pub returns-clause-input : goal.returns-clause-input
returns-clause-input c = search rules
