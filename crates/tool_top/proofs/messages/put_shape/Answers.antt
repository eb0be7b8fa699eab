-- The pieces are the words, with both numbers in decimal.
use Rattle.std.proofs.Common.{◌≡◌, ◌++◌, ◌∙◌, [], ap, codes, decimal, take}
use Rattle.std.proofs.lemmas.Result.{on_ok_weaker, on_err_weaker}
use Rattle.std.specs.Io.KnownBytes.{append_known}
use Rattle.tool_top.proofs.messages.put_shape.Goals as goal

pub returns-clause-done : goal.returns-clause-done
returns-clause-done g c =
    let a : c.as_bytes.result.now ≡ decimal c.args.rows = c.as_bytes.ensures.value ∙ c.format.ensures.text in
    let b : c.as_bytes-2.result.now ≡ decimal c.args.cols = c.as_bytes-2.ensures.value ∙ c.format-2.ensures.text in
    on_ok_weaker c.put_pieces.result (λ is. is ∙ ap (append_known (g.E.Sink.held c.args.err.now)) (λ i. codes "wrong shape " ++ (a i ++ (codes " x " ++ (b i ++ []))))) c.put_pieces.ensures.done

pub returns-clause-refused : goal.returns-clause-refused
returns-clause-refused g c =
    let a : c.as_bytes.result.now ≡ decimal c.args.rows = c.as_bytes.ensures.value ∙ c.format.ensures.text in
    let b : c.as_bytes-2.result.now ≡ decimal c.args.cols = c.as_bytes-2.ensures.value ∙ c.format-2.ensures.text in
    on_err_weaker c.put_pieces.result (λ may. (may.0, may.1 ∙ ap (λ t. append_known (g.E.Sink.held c.args.err.now) (take may.0 t)) (λ i. codes "wrong shape " ++ (a i ++ (codes " x " ++ (b i ++ [])))))) c.put_pieces.ensures.refused
