use Rattle.std.proofs.Common.{◌≡◌, length}
use Rattle.stage_store.specs.Lines.{MarksRow}
use Rattle.stage_store.proofs.lines.Lines.mark.Given as goal

abbrev pub invariant-loop-k : goal.invariant-loop-k
invariant-loop-k l = record {
  count : length l.self-inside.words.items ≡ length l.fn.self;
  marks : MarksRow l.upper l.levels l.q l.fn.self l.self-inside.words.items;
}
