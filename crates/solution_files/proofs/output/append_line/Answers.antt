use Rattle.std.proofs.Common.{rules}
use Rattle.solution_files.proofs.output.append_line.Goals as goal

pub returns-clause-done : goal.returns-clause-done
returns-clause-done g c = search rules

pub returns-clause-refused : goal.returns-clause-refused
returns-clause-refused g c = search rules
