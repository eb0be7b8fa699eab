-- The words of the command: the name of a tool, and then the words of that tool's command.
use Rattle.std.specs.Prelude.{◌≡◌, ◌&&◌, is_none, not, if◌then◌else◌, ℕ, Bool, List, [], ◌∷◌, Option, None, Some, Result, Ok, Err, codes}
use Rattle.std.specs.Bool.{nat_eq}
use Rattle.std.specs.Cmp.Lexicographic.{pointwise}
use Rattle.lift_core.specs.declared.Tool.{Tool}
use Rattle.lift_core.specs.declared.Tool.TheVariants.{Graver, Hilbert, Zsolve}
use Rattle.tool_words.specs.declared.jobs.Job.{Job}
use Rattle.tool_words.specs.declared.jobs.WordEnd.{WordEnd}
use Rattle.tool_words.specs.declared.jobs.WordEnd.TheVariants.{Usage, Memory}
use Rattle.tool_words.specs.Jobs.{job_of}
use Rattle.stand_tool.specs.declared.request.Request.{Request}

-- whether the word has these bytes
abbrev pub is_word : List ℕ → List ℕ → Bool
is_word w text = pointwise nat_eq w text

-- the tool that a word names
abbrev pub tool_in : List ℕ → Option Tool
tool_in w =
    if is_word w (codes "graver") then Some Graver
    else (if is_word w (codes "hilbert") then Some Hilbert
    else (if is_word w (codes "zsolve") then Some Zsolve else None))

-- the job has no tables, no backups and no restart
abbrev pub is_plain : Job → Bool
is_plain job = is_none job.tables && (is_none job.backup && not job.resume)

-- a plain job of the tool; nothing where the words were refused
abbrev pub plain_request : Tool → Option Job → Option Request
plain_request tool None = None
plain_request tool (Some job) =
    if is_plain job then Some (record { tool = tool; job = job }) else None

-- the words behind the tool's name are those of its command
abbrev pub request_with : Option Tool → List (List ℕ) → Option Request
request_with None words = None
request_with (Some tool) words = plain_request tool (job_of tool words)

-- what the words ask for
abbrev pub request_of : List (List ℕ) → Option Request
request_of [] = None
request_of (word ∷ words) = request_with (tool_in word) words

-- usage exactly where the words are not of the form, and else what they ask for; memory may run out
abbrev pub AsksFor : List (List ℕ) → Result Request WordEnd → Type 0
AsksFor words (Ok request) = request_of words ≡ Some request
AsksFor words (Err Usage) = request_of words ≡ None
AsksFor words (Err Memory) = Unit {0}
