use Rattle.std.proofs.Common.{rules}
use Rattle.mat_files.proofs.relations.RelCell.read.Goals as goal

pub returns-in-60 : goal.returns-in-60
returns-in-60 c = search rules
