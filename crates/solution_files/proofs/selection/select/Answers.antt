use Rattle.std.proofs.Common.{rules, arith}
use Rattle.std.proofs.lemmas.Grind.{elements}
use Rattle.solution_files.proofs.selection.select.Goals as goal

pub lay_out-requires-clause-shape : goal.lay_out-requires-clause-shape
lay_out-requires-clause-shape c = search rules

pub returns : goal.returns
returns c = grind (arith, elements)
