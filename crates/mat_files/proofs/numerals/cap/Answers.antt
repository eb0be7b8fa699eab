use Rattle.std.proofs.Common.{rules}
use Rattle.mat_files.proofs.numerals.cap.Goals as goal

pub returns-in-42 : goal.returns-in-42
returns-in-42 c = search rules
