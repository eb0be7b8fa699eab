use Rattle.std.proofs.Common.{◌≡◌, [], drop}
use Rattle.circuit_tool.specs.Inside.Supports.{least_from}
use Rattle.circuit_tool.proofs.supports.least.Given as goal

abbrev pub invariant-loop-word : goal.invariant-loop-word
invariant-loop-word l = least_from l.kept.items (drop l.word-index l.words) ≡ least_from [] l.words
