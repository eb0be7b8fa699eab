-- What is found in the words makes their job, and what refuses them makes none.
use Rattle.std.proofs.Common.{◌≡◌, ◌∙◌, ap, map, sym, subst, List, ℕ}
use Rattle.std.specs.Borrow.{Bor}
use Rattle.clap.specs.Walk.{rows_of}
use Rattle.clap.specs.Matches.{found_of}
use Rattle.clap.specs.Kinds.{HasKind}
use Rattle.clap.specs.Values.{kind_of}
use Rattle.clap.specs.Faults.{fault_of}
use Rattle.clap.specs.Simple.{matches_of}
use Rattle.tool_words.specs.Inside.Commands.{command_for, MakesJob}
use Rattle.tool_words.proofs.Read.{reads_found, reads_refused}
use Rattle.tool_words.proofs.reading.read_words.Goals as goal

pub returns-in-Ok-clause-reads : goal.returns-in-Ok-clause-reads
returns-in-Ok-clause-reads c =
    let same : map (λ (w : Bor (List ℕ)). w.now) c.as_slice.result.now ≡ c.args.words.now = ap (map (λ (w : Bor (List ℕ)). w.now)) c.as_slice.ensures.value ∙ c.in_ok-texts.ensures.texts in
    reads_found c.args.tool c.args.words.now (rows_of (found_of c.in-Ok.found)) c.job.result c.in_ok-texts.ensures.utf8
    (sym (ap (fault_of (command_for c.args.tool)) same) ∙ c.in-Ok.ensures.refused)
    (c.in-Ok.ensures.read ∙ ap (matches_of (command_for c.args.tool)) same)
    (subst (λ t. MakesJob t c.job.result) c.found_texts.ensures c.job.ensures.reads)

pub returns-clause-reads : goal.returns-clause-reads
returns-clause-reads c =
    let same : map (λ (w : Bor (List ℕ)). w.now) c.as_slice.result.now ≡ c.args.words.now = ap (map (λ (w : Bor (List ℕ)). w.now)) c.as_slice.ensures.value ∙ c.in_ok-texts.ensures.texts in
    reads_refused c.args.tool c.args.words.now (kind_of c.in-Err.error) c.end_of.result c.in_ok-texts.ensures.utf8
    (subst (λ (w : List (List ℕ)). HasKind (fault_of (command_for c.args.tool) w) c.in-Err.error) same c.in-Err.ensures.refused)
    c.end_of.ensures
