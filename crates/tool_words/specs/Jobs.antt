-- The job that the words of a command are.
use Rattle.std.specs.Prelude.{◌≡◌, ◌^◌, ◌≤◌, ℕ, not, Bool, false, if◌then◌else◌, List, Option, None, Some, IfSome, Result, Ok, Err, unwrap_or, codes}
use Rattle.lift_core.specs.declared.Tool.{Tool}
use Rattle.outside.specs.Names.{is_name}
use Rattle.tool_words.specs.Numbers.{number_in}
use Rattle.tool_words.specs.Walks.{Text, Given, is_true, text_given, given_of, ◌>>=◌}
use Rattle.tool_words.specs.declared.jobs.Job.{Job}
use Rattle.tool_words.specs.declared.jobs.WordEnd.{WordEnd}
use Rattle.tool_words.specs.declared.jobs.WordEnd.TheVariants.{Usage, Memory}

-- the texts of the options and of the positional word, and which flags are given
pub record Texts : Type 0 where
  pub project : Option Text
  pub tables : Option Text
  pub workers : Option Text
  pub pairs : Option Text
  pub rows : Option Text
  pub backup : Option Text
  pub resume : Bool
  pub quiet : Bool

abbrev pub texts_of : Given → Texts
texts_of given = record {
  project = text_given (codes "project") given;
  tables = text_given (codes "tables") given;
  workers = text_given (codes "workers") given;
  pairs = text_given (codes "pairs") given;
  rows = text_given (codes "rows") given;
  backup = text_given (codes "backup") given;
  resume = is_true (text_given (codes "resume") given);
  quiet = is_true (text_given (codes "quiet") given);
}

-- the number of an option that may be left out; none where its text is refused
abbrev pub number_of : ℕ → ℕ → Option Text → Option (Option ℕ)
number_of least most None = Some None
number_of least most (Some text) = number_in least most text >>= (λ n. Some (Some n))

-- without tables there is a project's name; with tables there is no positional word, no backup and
-- no restart
abbrev pub is_apart : Option Text → Option Text → Option Text → Bool → Bool
is_apart None None backup resume = false
is_apart None (Some project) backup resume = is_name project
is_apart (Some tables) (Some project) backup resume = false
is_apart (Some tables) None (Some backup) resume = false
is_apart (Some tables) None None resume = not resume

-- the numbers within their limits, or else their defaults
abbrev pub job_of_texts : Texts → Option Job
job_of_texts t =
    number_of 2 20 t.tables >>= (λ tables.
    number_of 1 32 t.workers >>= (λ workers.
    number_of 0 (2 ^ 62) t.pairs >>= (λ pairs.
    number_of 1 (2 ^ 21) t.rows >>= (λ rows.
    number_of 1 (2 ^ 20) t.backup >>= (λ backup.
    if is_apart t.tables t.project t.backup t.resume then Some (record {
      project = t.project;
      tables = tables;
      workers = unwrap_or workers 4;
      pairs = unwrap_or pairs (2 ^ 40);
      rows = unwrap_or rows (2 ^ 20);
      backup = backup;
      resume = t.resume;
      quiet = t.quiet;
    }) else None)))))

-- the job of the words, none where they are not of the form
abbrev pub job_of : Tool → List Text → Option Job
job_of tool words = given_of tool words >>= (λ given. job_of_texts (texts_of given))

-- usage exactly where the words are not of the form, and else their job; memory may run out
abbrev pub ReadsJob : Tool → List Text → Result Job WordEnd → Type 0
ReadsJob tool words (Ok job) = job_of tool words ≡ Some job
ReadsJob tool words (Err Usage) = job_of tool words ≡ None
ReadsJob tool words (Err Memory) = Unit {0}

-- the numbers of a job are within the limits
pub record IsWithinLimits (job : Job) : Type 0 where
  pub tables : IfSome job.tables (λ k. (2 ≤ k) × (k ≤ 20))
  pub workers : (1 ≤ job.workers) × (job.workers ≤ 32)
  pub pairs : job.pairs ≤ 2 ^ 62
  pub rows : (1 ≤ job.rows) × (job.rows ≤ 2 ^ 21)
  pub backup : IfSome job.backup (λ n. (1 ≤ n) × (n ≤ 2 ^ 20))
