-- The file's name, and then its fault; a refusal leaves a prefix of both.
use Rattle.std.proofs.Common.{◌∷◌, [], codes}
use Rattle.std.proofs.lemmas.Result.{err_from_is_err_and, on_ok_weaker, on_err_weaker}
use Rattle.tool_top.specs.Messages.{part_name, text_fault}
use Rattle.tool_top.proofs.Sequences.{parts_first, parts_second, parts_both}
use Rattle.tool_top.proofs.messages.put_text_line.Goals as goal

pub returns-in_err-put_file-clause-refused : goal.returns-in_err-put_file-clause-refused
returns-in_err-put_file-clause-refused g c =
    let p = err_from_is_err_and c.from_residual.result c.from_residual.ensures.1 in
    rw p.1 (parts_first (part_name c.args.project.now c.args.part ∷ codes ": " ∷ []) (text_fault c.args.fault) (g.E.Sink.held c.args.err.now) (g.E.Sink.held c.put_file.new.err) c.in_err-put_file.ensures.refused)

pub returns-clause-done : goal.returns-clause-done
returns-clause-done g c =
    on_ok_weaker c.put_text_fault.result (parts_both (part_name c.args.project.now c.args.part ∷ codes ": " ∷ []) (text_fault c.args.fault) (g.E.Sink.held c.args.err.now) (g.E.Sink.held c.put_file.new.err) (g.E.Sink.held c.put_text_fault.new.err) c.in_ok-put_file.ensures.done) c.put_text_fault.ensures.done

pub returns-clause-refused : goal.returns-clause-refused
returns-clause-refused g c =
    on_err_weaker c.put_text_fault.result (parts_second (part_name c.args.project.now c.args.part ∷ codes ": " ∷ []) (text_fault c.args.fault) (g.E.Sink.held c.args.err.now) (g.E.Sink.held c.put_file.new.err) (g.E.Sink.held c.put_text_fault.new.err) c.in_ok-put_file.ensures.done) c.put_text_fault.ensures.refused
