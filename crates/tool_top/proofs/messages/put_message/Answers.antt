-- The tool's name, and then the line; a refusal leaves a prefix of both.
use Rattle.std.proofs.Common.{◌≡◌, ◌∷◌, [], ◌++◌, ◌∙◌, codes, subst}
use Rattle.std.proofs.lemmas.Result.{err_from_is_err_and, on_ok_weaker, on_err_weaker}
use Rattle.std.specs.Io.KnownBytes.{append_known}
use Rattle.outside.specs.Pieces.{MayPut, text_of_parts}
use Rattle.tool_top.specs.Messages.{line_words, tool_name}
use Rattle.tool_top.proofs.Sequences.{parts_first, parts_second, parts_both}
use Rattle.tool_top.proofs.messages.put_message.Goals as goal

pub returns-in_err-put_two-clause-refused : goal.returns-in_err-put_two-clause-refused
returns-in_err-put_two-clause-refused g c =
    let p = err_from_is_err_and c.from_residual.result c.from_residual.ensures.1 in
    rw p.1 (parts_first ((tool_name c.args.tool) ∷ codes ": " ∷ []) (line_words c.args.tool c.args.project.now c.args.end.now ++ codes "\n" ∷ []) (g.E.Sink.held c.args.err.now) (g.E.Sink.held c.put_two.new.err)
    (subst (λ v. MayPut (text_of_parts ((v) ∷ codes ": " ∷ [])) (g.E.Sink.held c.args.err.now) (g.E.Sink.held c.put_two.new.err)) (c.as_bytes.ensures.value ∙ c.tool_name.ensures) c.in_err-put_two.ensures.refused))

pub returns-clause-done : goal.returns-clause-done
returns-clause-done g c =
    let first = subst (λ v. g.E.Sink.held c.put_two.new.err ≡ append_known (g.E.Sink.held c.args.err.now) (text_of_parts ((v) ∷ codes ": " ∷ []))) (c.as_bytes.ensures.value ∙ c.tool_name.ensures) c.in_ok-put_two.ensures.done in
    on_ok_weaker c.put_line.result (parts_both ((tool_name c.args.tool) ∷ codes ": " ∷ []) (line_words c.args.tool c.args.project.now c.args.end.now ++ codes "\n" ∷ []) (g.E.Sink.held c.args.err.now) (g.E.Sink.held c.put_two.new.err) (g.E.Sink.held c.put_line.new.err) first) c.put_line.ensures.done

pub returns-clause-refused : goal.returns-clause-refused
returns-clause-refused g c =
    let first = subst (λ v. g.E.Sink.held c.put_two.new.err ≡ append_known (g.E.Sink.held c.args.err.now) (text_of_parts ((v) ∷ codes ": " ∷ []))) (c.as_bytes.ensures.value ∙ c.tool_name.ensures) c.in_ok-put_two.ensures.done in
    on_err_weaker c.put_line.result (parts_second ((tool_name c.args.tool) ∷ codes ": " ∷ []) (line_words c.args.tool c.args.project.now c.args.end.now ++ codes "\n" ∷ []) (g.E.Sink.held c.args.err.now) (g.E.Sink.held c.put_two.new.err) (g.E.Sink.held c.put_line.new.err) first) c.put_line.ensures.refused
