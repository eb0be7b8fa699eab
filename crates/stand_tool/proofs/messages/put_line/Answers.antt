-- The words, and then the end of the line; a refusal leaves a prefix of both.
use Rattle.std.proofs.Common.{◌∷◌, [], codes}
use Rattle.std.proofs.lemmas.Result.{err_from_is_err_and, on_ok_weaker, on_err_weaker}
use Rattle.stand_tool.specs.Messages.{line_words}
use Rattle.tool_top.proofs.Sequences.{parts_first, parts_second, parts_both}
use Rattle.stand_tool.proofs.messages.put_line.Goals as goal

pub returns-in_err-put_end-clause-refused : goal.returns-in_err-put_end-clause-refused
returns-in_err-put_end-clause-refused g c =
    let p = err_from_is_err_and c.from_residual.result c.from_residual.ensures.1 in
    rw p.1 (parts_first (line_words c.args.project.now c.args.end.now) (codes "\n" ∷ []) (g.E.Sink.held c.args.err.now) (g.E.Sink.held c.put_end.new.err) c.in_err-put_end.ensures.refused)

pub returns-clause-done : goal.returns-clause-done
returns-clause-done g c =
    on_ok_weaker c.put_text.result (parts_both (line_words c.args.project.now c.args.end.now) (codes "\n" ∷ []) (g.E.Sink.held c.args.err.now) (g.E.Sink.held c.put_end.new.err) (g.E.Sink.held c.put_text.new.err) c.in_ok-put_end.ensures.done) c.put_text.ensures.done

pub returns-clause-refused : goal.returns-clause-refused
returns-clause-refused g c =
    on_err_weaker c.put_text.result (parts_second (line_words c.args.project.now c.args.end.now) (codes "\n" ∷ []) (g.E.Sink.held c.args.err.now) (g.E.Sink.held c.put_end.new.err) (g.E.Sink.held c.put_text.new.err) c.in_ok-put_end.ensures.done) c.put_text.ensures.refused
