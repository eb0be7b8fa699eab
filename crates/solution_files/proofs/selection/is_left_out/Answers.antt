use Rattle.std.proofs.Common.{rules}
use Rattle.solution_files.proofs.selection.is_left_out.Goals as goal

pub returns-in_ok-has_negative : goal.returns-in_ok-has_negative
returns-in_ok-has_negative c = search rules
