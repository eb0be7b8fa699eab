-- The equation's number, and then the entries; a refusal leaves a prefix of both.
use Rattle.std.proofs.Common.{◌∷◌, [], codes, decimal}
use Rattle.std.proofs.lemmas.Result.{err_from_is_err_and, on_ok_weaker, on_err_weaker}
use Rattle.tool_top.specs.Messages.{entries}
use Rattle.tool_top.proofs.Sequences.{parts_first, parts_second, parts_both}
use Rattle.tool_top.proofs.messages.put_solution.Goals as goal

pub returns-in_err-put_number-clause-refused : goal.returns-in_err-put_number-clause-refused
returns-in_err-put_number-clause-refused g c =
    let p = err_from_is_err_and c.from_residual.result c.from_residual.ensures.1 in
    rw p.1 (parts_first (codes "overflow at equation " ∷ decimal c.args.stage ∷ codes ": solution" ∷ []) (entries c.args.cells.now) (g.E.Sink.held c.args.err.now) (g.E.Sink.held c.put_number.new.err) c.in_err-put_number.ensures.refused)

pub returns-clause-done : goal.returns-clause-done
returns-clause-done g c =
    on_ok_weaker c.put_entries.result (parts_both (codes "overflow at equation " ∷ decimal c.args.stage ∷ codes ": solution" ∷ []) (entries c.args.cells.now) (g.E.Sink.held c.args.err.now) (g.E.Sink.held c.put_number.new.err) (g.E.Sink.held c.put_entries.new.err) c.in_ok-put_number.ensures.done) c.put_entries.ensures.done

pub returns-clause-refused : goal.returns-clause-refused
returns-clause-refused g c =
    on_err_weaker c.put_entries.result (parts_second (codes "overflow at equation " ∷ decimal c.args.stage ∷ codes ": solution" ∷ []) (entries c.args.cells.now) (g.E.Sink.held c.args.err.now) (g.E.Sink.held c.put_number.new.err) (g.E.Sink.held c.put_entries.new.err) c.in_ok-put_number.ensures.done) c.put_entries.ensures.refused
