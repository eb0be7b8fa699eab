-- The entries so far are put.
use Rattle.std.proofs.Common.{◌≡◌, ◌≤◌, take}
use Rattle.std.specs.Io.KnownBytes.{append_known}
use Rattle.outside.specs.Pieces.{text_of_parts}
use Rattle.tool_top.specs.Messages.{entries}
use Rattle.tool_top.proofs.messages.put_entries.Given as goal

abbrev pub invariant-loop-cell : goal.invariant-loop-cell
invariant-loop-cell g l = record {
  put : g.E.Sink.held l.err ≡ append_known (g.E.Sink.held l.fn.err) (text_of_parts (entries (take l.cell-index l.cells)));
  later : g.E.Sink.faults l.fn.err ≤ g.E.Sink.faults l.err;
}
