-- The pieces are both lines of the summary, with the numbers in decimal.
use Rattle.std.proofs.Common.{◌≡◌, ◌++◌, ◌∙◌, ap, codes, decimal, take}
use Rattle.std.proofs.lemmas.Result.{on_ok_weaker, on_err_weaker}
use Rattle.std.specs.Io.KnownBytes.{append_known}
use Rattle.tool_top.proofs.summary.put_counts_and_norms.Goals as goal

pub returns-clause-done : goal.returns-clause-done
returns-clause-done g c =
    let a : c.as_bytes.result.now ≡ decimal c.args.solutions = c.as_bytes.ensures.value ∙ c.format.ensures.text in
    let b : c.as_bytes-2.result.now ≡ decimal c.args.pairs = c.as_bytes-2.ensures.value ∙ c.format-2.ensures.text in
    let n : c.as_bytes-3.result.now ≡ decimal c.args.norms = c.as_bytes-3.ensures.value ∙ c.format-3.ensures.text in
    on_ok_weaker c.put_pieces.result
    (λ is. is ∙ ap (append_known (g.O.Sink.held c.args.out.now)) (λ i. a i ++ (codes " solutions, " ++ (b i ++ (codes " pairs\nnorm total " ++ (n i ++ codes "\n"))))))
    c.put_pieces.ensures.done

pub returns-clause-refused : goal.returns-clause-refused
returns-clause-refused g c =
    let a : c.as_bytes.result.now ≡ decimal c.args.solutions = c.as_bytes.ensures.value ∙ c.format.ensures.text in
    let b : c.as_bytes-2.result.now ≡ decimal c.args.pairs = c.as_bytes-2.ensures.value ∙ c.format-2.ensures.text in
    let n : c.as_bytes-3.result.now ≡ decimal c.args.norms = c.as_bytes-3.ensures.value ∙ c.format-3.ensures.text in
    on_err_weaker c.put_pieces.result
    (λ may. (may.0, may.1 ∙ ap (λ t. append_known (g.O.Sink.held c.args.out.now) (take may.0 t)) (λ i. a i ++ (codes " solutions, " ++ (b i ++ (codes " pairs\nnorm total " ++ (n i ++ codes "\n")))))))
    c.put_pieces.ensures.refused
