-- From what is found or refused to what the words read as.
use Rattle.std.proofs.Common.{◌≡◌, List, [], Option, None, Some, Result, Ok, Err, refl, ap, sym, subst, ◌∙◌, ◌⊎◌, inl, inr, arith}
use Rattle.clap.specs.Walk.{Row, Text}
use Rattle.clap.specs.Kinds.{IsAmong}
use Rattle.clap.specs.Faults.{fault_of}
use Rattle.clap.specs.Simple.{matches_of}
use Rattle.clap.specs.declared.error.kind.ErrorKind.{ErrorKind}
use Rattle.clap.specs.declared.error.kind.ErrorKind.TheVariants as kind
use Rattle.lift_core.specs.declared.Tool.{Tool}
use Rattle.tool_words.specs.Walks.{Given, given_of, ◌>>=◌}
use Rattle.tool_words.specs.Jobs.{ReadsJob, job_of_texts, texts_of}
use Rattle.tool_words.specs.declared.jobs.Job.{Job}
use Rattle.tool_words.specs.declared.jobs.WordEnd.{WordEnd}
use Rattle.tool_words.specs.declared.jobs.WordEnd.TheVariants.{Usage, Memory}
use Rattle.tool_words.specs.Inside.Commands.{command_for, texts_in, MakesJob, EndsBy}
use Rattle.tool_words.proofs.Walked.{AreUtf8}
use Rattle.tool_words.proofs.Found.{IsFound, words_found}

job_found : (tool : Tool) (words : List Text) (rows : List Row) (job : Option Job) → fault_of (command_for tool) words ≡ [] → rows ≡ matches_of (command_for tool) words →
    job_of_texts (texts_in rows) ≡ job → (given : Option Given) → IsFound tool words given → (given >>= (λ g. job_of_texts (texts_of g))) ≡ job
job_found tool words rows job fault found is None law = absurd (law fault)
job_found tool words rows job fault found is (Some given) law = ap job_of_texts (sym law.1 ∙ ap texts_in (sym found)) ∙ is

pub reads_found : (tool : Tool) (words : List Text) (rows : List Row) (result : Result Job WordEnd) → AreUtf8 words → fault_of (command_for tool) words ≡ [] → rows ≡ matches_of (command_for tool) words →
    MakesJob (texts_in rows) result → ReadsJob tool words result
reads_found tool words rows (Ok job) utf8 fault found makes = job_found tool words rows (Some job) fault found makes (given_of tool words) (words_found tool words utf8)
reads_found tool words rows (Err Usage) utf8 fault found makes = job_found tool words rows None fault found makes (given_of tool words) (words_found tool words utf8)
reads_found tool words rows (Err Memory) utf8 fault found makes = tt

job_lost : (tool : Tool) (words : List Text) → (fault_of (command_for tool) words ≡ [] → ⊥) → (given : Option Given) → IsFound tool words given → (given >>= (λ g. job_of_texts (texts_of g))) ≡ None
job_lost tool words fault None law = refl
job_lost tool words fault (Some given) law = absurd (fault law.0)

pub reads_refused : (tool : Tool) (words : List Text) (k : ErrorKind) (end : WordEnd) → AreUtf8 words → ((k ≡ kind.OutOfMemory) ⊎ IsAmong k (fault_of (command_for tool) words)) → EndsBy k end → ReadsJob tool words (Err end)
reads_refused tool words k Memory utf8 has ends = tt
reads_refused tool words k Usage utf8 (inl memory) ends = absurd (grind (arith, ends.memory memory))
reads_refused tool words k Usage utf8 (inr among) ends = job_lost tool words (λ none. subst (IsAmong k) none among) (given_of tool words) (words_found tool words utf8)
