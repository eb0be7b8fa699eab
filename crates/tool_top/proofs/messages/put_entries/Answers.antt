-- A refusal leaves a prefix of all entries.
use Rattle.std.proofs.Common.{arith, pos, get_or, rules, SFits, w64, to_z-of_z}
use Rattle.std.proofs.lemmas.Result.{err_from_is_err_and}
use Rattle.tool_top.proofs.Sequences.{entries_front}
use Rattle.tool_top.proofs.messages.put_entries.Goals as goal

pub returns-in_err-put_entry-clause-refused : goal.returns-in_err-put_entry-clause-refused
returns-in_err-put_entry-clause-refused g c =
    let p = err_from_is_err_and c.from_residual.result c.from_residual.ensures.1 in
    let f : SFits w64 (get_or c.args.cells.now c.loop-cell.cell-index (pos 0)) = search rules in
    rw p.1 (entries_front c.args.cells.now c.loop-cell.cell-index (pos 0) (g.E.Sink.held c.args.err.now) (g.E.Sink.held c.loop-cell.err) (g.E.Sink.held c.put_entry.new.err)
    (omega arith) c.loop-cell.invariant.put (simp to_z-of_z at c.in_err-put_entry.ensures.refused))
