-- The entries so far are put.
use Rattle.std.proofs.Common.{◌≡◌, ◌≤◌, take}
use Rattle.std.specs.Io.KnownBytes.{append_known}
use Rattle.outside.specs.Pieces.{text_of_parts}
use Rattle.decompose_tool.specs.Messages.{entries}
use Rattle.decompose_tool.proofs.messages.put_entries.Given as goal

abbrev pub invariant-loop-entry : goal.invariant-loop-entry
invariant-loop-entry g l = record {
  put : g.E.Sink.held l.err ≡ append_known (g.E.Sink.held l.fn.err) (text_of_parts (entries (take l.entry-index l.v)));
  later : g.E.Sink.faults l.fn.err ≤ g.E.Sink.faults l.err;
}
