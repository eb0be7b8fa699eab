use Rattle.std.proofs.Common.{◌≡◌, ◌<◌, ◌^◌, drop}
use Rattle.circuit_tool.specs.Inside.Supports.{word_from, word_of}
use Rattle.circuit_tool.proofs.supports.support.Given as goal

abbrev pub invariant-loop-entry : goal.invariant-loop-entry
invariant-loop-entry l = record {
  small : l.word < 2 ^ l.entry-index;
  rest : word_from l.word (drop l.entry-index l.vector) ≡ word_of l.vector;
}
