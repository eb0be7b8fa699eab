use Rattle.std.proofs.Common.{◌≡◌, length}
use Rattle.stage_store.specs.Lines.{MarksRow}
use Rattle.stage_store.proofs.lines.mark_item.Given as goal

abbrev pub invariant-loop-l : goal.invariant-loop-l
invariant-loop-l l = record {
  count : length l.words.items ≡ length l.fn.words.items;
  marks : MarksRow l.upper l.levels l.q l.fn.words.items l.words.items;
}
