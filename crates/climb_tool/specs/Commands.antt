-- What the words of the command say: the project, and the most steps.
use Rattle.std.specs.Prelude.{ℕ, ◌==◌, nat_le, if◌then◌else◌, List, [], ◌∷◌, drop, take, Option, None, Some, codes}
use Rattle.std.specs.Cmp.Lexicographic.{pointwise}
use Rattle.outside.specs.Names.{is_name}
use Rattle.mat_files.specs.Words.{digits_value}

-- the most steps where the words do not say
abbrev pub most_steps : ℕ
most_steps = 65536

-- a project, and the most steps
pub record Command : Type 0 where
  pub project : List ℕ
  pub budget : ℕ

-- a number that is small enough
abbrev pub up_to : ℕ → Option ℕ → Option ℕ
up_to most None = None
up_to most (Some n) = if nat_le n most then Some n else None

-- the number behind `--steps=`: one or more digits, leading zeros too
abbrev pub budget_in : List ℕ → Option ℕ
budget_in word =
    if pointwise (λ a b. a == b) (take 8 word) (codes "--steps=")
    then up_to most_steps (digits_value (drop 8 word)) else None

-- the command of a budget and a project's name
abbrev pub named : Option ℕ → List ℕ → Option Command
named None name = None
named (Some n) name = if is_name name then Some (record { project = name; budget = n }) else None

-- `--steps=N` may stand before the project
abbrev pub command_in : List (List ℕ) → Option Command
command_in [] = None
command_in (w ∷ []) = named (Some most_steps) w
command_in (v ∷ w ∷ []) = named (budget_in v) w
command_in (u ∷ v ∷ w ∷ ws) = None

-- the project that the line on standard error names; nothing where the words are no command
abbrev pub project_of : Option Command → List ℕ
project_of None = []
project_of (Some c) = c.project
