-- The digest's line ends the text, or a refusal leaves a prefix.
use Rattle.std.proofs.lemmas.Result.{err_from_is_err_and}
use Rattle.std.proofs.Common.{ap, ◌∙◌, ◌++◌, ◌∷◌, []}
use Rattle.std.specs.Prelude.{codes}
use Rattle.hex.specs.Hex.{encode_lower}
use Rattle.restart_file.proofs.Sending.{stopped, last_sent, last_refused, on_ok, on_err}
use Rattle.restart_file.proofs.writing.seal.Goals as goal

pub returns-in_err-push_digest-clause-refused : goal.returns-in_err-push_digest-clause-refused
returns-in_err-push_digest-clause-refused g c = λ bytes before sent.
    let p = err_from_is_err_and c.from_residual.result c.from_residual.ensures.1 in
    rw p.1 (stopped c.args.name.now bytes before (g.F.Folder.held c.args.folder.now) (g.F.Folder.held c.args.folder.now) c.args.hasher c.args.hasher [] sent)

pub returns-clause-done : goal.returns-clause-done
returns-clause-done g c = λ bytes before sent.
    on_ok c.append.result
    (λ more.
    last_sent c.args.name.now bytes before (g.F.Folder.held c.args.folder.now) (g.F.Folder.held c.append.new.self) c.args.hasher c.args.hasher c.finalize-digest.result c.deref.result.now c.finalize-digest.ensures
    (c.deref.ensures.value ∙ c.in_ok-push_digest.ensures ∙ ap (λ front. front ++ (codes "digest " ++ encode_lower c.finalize-digest.result ++ 10 ∷ [])) c.requires) sent more)
    c.append.ensures.done

pub returns-clause-refused : goal.returns-clause-refused
returns-clause-refused g c = λ bytes before sent.
    on_err c.append.result
    (λ more.
    last_refused c.args.name.now bytes before (g.F.Folder.held c.args.folder.now) (g.F.Folder.held c.append.new.self) c.args.hasher c.args.hasher c.finalize-digest.result c.deref.result.now c.finalize-digest.ensures
    (c.deref.ensures.value ∙ c.in_ok-push_digest.ensures ∙ ap (λ front. front ++ (codes "digest " ++ encode_lower c.finalize-digest.result ++ 10 ∷ [])) c.requires) sent more)
    c.append.ensures.refused
