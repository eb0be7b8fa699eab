use Rattle.std.proofs.Common.{rules}
use Rattle.solution_files.proofs.selection.is_of_kind.Goals as goal

pub returns-in-Hom : goal.returns-in-Hom
returns-in-Hom c = search rules
