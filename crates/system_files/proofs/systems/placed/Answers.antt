use Rattle.std.proofs.Common.{rules}
use Rattle.system_files.proofs.systems.placed.Goals as goal

pub returns-in-Err-Bad : goal.returns-in-Err-Bad
returns-in-Err-Bad c = search rules
