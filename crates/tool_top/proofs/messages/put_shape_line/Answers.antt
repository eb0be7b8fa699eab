-- The file's name, and then its fault; a refusal leaves a prefix of both.
use Rattle.std.proofs.Common.{◌≡◌, ◌∷◌, [], codes, subst}
use Rattle.std.proofs.lemmas.Result.{err_from_is_err_and, on_ok_weaker, on_err_weaker}
use Rattle.std.specs.Io.KnownBytes.{append_known}
use Rattle.outside.specs.Pieces.{MayPut, text_of_parts}
use Rattle.tool_top.specs.Messages.{part_name, shape_part, shape_fault_words}
use Rattle.tool_top.proofs.Sequences.{parts_first, parts_second, parts_both}
use Rattle.tool_top.proofs.messages.put_shape_line.Goals as goal

pub returns-in_err-put_file-clause-refused : goal.returns-in_err-put_file-clause-refused
returns-in_err-put_file-clause-refused g c =
    let p = err_from_is_err_and c.from_residual.result c.from_residual.ensures.1 in
    rw p.1 (parts_first (part_name c.args.project.now (shape_part c.args.fault) ∷ codes ": " ∷ []) (shape_fault_words c.args.fault) (g.E.Sink.held c.args.err.now) (g.E.Sink.held c.put_file.new.err)
    (subst (λ v. MayPut (text_of_parts (part_name c.args.project.now (v) ∷ codes ": " ∷ [])) (g.E.Sink.held c.args.err.now) (g.E.Sink.held c.put_file.new.err)) (c.shape_part.ensures) c.in_err-put_file.ensures.refused))

pub returns-clause-done : goal.returns-clause-done
returns-clause-done g c =
    let first = subst (λ v. g.E.Sink.held c.put_file.new.err ≡ append_known (g.E.Sink.held c.args.err.now) (text_of_parts (part_name c.args.project.now (v) ∷ codes ": " ∷ []))) (c.shape_part.ensures) c.in_ok-put_file.ensures.done in
    on_ok_weaker c.put_shape_fault.result (parts_both (part_name c.args.project.now (shape_part c.args.fault) ∷ codes ": " ∷ []) (shape_fault_words c.args.fault) (g.E.Sink.held c.args.err.now) (g.E.Sink.held c.put_file.new.err) (g.E.Sink.held c.put_shape_fault.new.err) first) c.put_shape_fault.ensures.done

pub returns-clause-refused : goal.returns-clause-refused
returns-clause-refused g c =
    let first = subst (λ v. g.E.Sink.held c.put_file.new.err ≡ append_known (g.E.Sink.held c.args.err.now) (text_of_parts (part_name c.args.project.now (v) ∷ codes ": " ∷ []))) (c.shape_part.ensures) c.in_ok-put_file.ensures.done in
    on_err_weaker c.put_shape_fault.result (parts_second (part_name c.args.project.now (shape_part c.args.fault) ∷ codes ": " ∷ []) (shape_fault_words c.args.fault) (g.E.Sink.held c.args.err.now) (g.E.Sink.held c.put_file.new.err) (g.E.Sink.held c.put_shape_fault.new.err) first) c.put_shape_fault.ensures.refused
