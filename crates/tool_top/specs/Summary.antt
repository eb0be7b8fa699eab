-- The summary on standard output, and the exit status.
use Rattle.std.specs.Prelude.{◌≡◌, ◌⊎◌, ℕ, if◌then◌else◌, List, ◌∷◌, [], Option, None, Some, IsSomeAnd, codes, decimal}
use Rattle.std.specs.Io.KnownBytes.{append_known}
use Rattle.outside.specs.Pieces.{MayPut, text_of_parts}
use Rattle.tool_words.specs.declared.jobs.Job.{Job}
use Rattle.tool_top.specs.declared.ends.Part.TheVariants.{Out}
use Rattle.tool_top.specs.declared.ends.End.{End}
use Rattle.tool_top.specs.declared.ends.End.TheVariants.{Done, Usage, Overflow, Pairs, Rows, Outside, Memory}

-- the parts of the second line, with tables alone
abbrev pub norm_parts : Option ℕ → ℕ → List (List ℕ)
norm_parts None norms = []
norm_parts (Some columns) norms = codes "norm total " ∷ decimal norms ∷ codes "\n" ∷ []

-- the line of the two counts, and with tables the line of the sum of the norms
abbrev pub summary_lines : Option ℕ → ℕ → ℕ → ℕ → List ℕ
summary_lines tables solutions pairs norms = text_of_parts
    (decimal solutions ∷ codes " solutions, " ∷ decimal pairs ∷ codes " pairs\n"
    ∷ norm_parts tables norms)

-- the summary of a job: nothing where it is quiet
abbrev pub summary_of : Job → ℕ → ℕ → ℕ → List ℕ
summary_of job solutions pairs norms =
    if job.quiet then [] else summary_lines job.tables solutions pairs norms

-- a prefix of some summary of the job was put
abbrev pub MayTell : Job → Option (List ℕ) → Option (List ℕ) → Type 0
MayTell job old new =
    (solutions pairs norms : ℕ) × MayPut (summary_of job solutions pairs norms) old new

-- what standard output has gained, whether or not the folder tells its files
abbrev pub Tells : Option Job → Option (List ℕ) → Option (List ℕ) → End → Type 0
Tells job old new (Done solutions pairs norms) =
    IsSomeAnd job (λ j. new ≡ append_known old (summary_of j solutions pairs norms))
Tells job old new (Outside part) =
    (new ≡ old) ⊎ ((part ≡ Out) × IsSomeAnd job (λ j. MayTell j old new))
Tells job old new Memory = (new ≡ old) ⊎ IsSomeAnd job (λ j. MayTell j old new)
Tells job old new end = new ≡ old

-- the exit status: each answer that is not named is a fault of the input
abbrev pub code_of : End → ℕ
code_of (Done solutions pairs norms) = 0
code_of Usage = 1
code_of (Overflow stage place) = 3
code_of (Pairs stage norm needed) = 4
code_of (Rows stage norm count) = 4
code_of (Outside part) = 5
code_of Memory = 6
code_of fault = 2
