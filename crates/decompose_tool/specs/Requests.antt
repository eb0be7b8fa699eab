-- The words of the command: a tool and a project.
use Rattle.std.specs.Prelude.{ℕ, List, [], ◌∷◌, if◌then◌else◌, Bool, Option, None, Some, codes}
use Rattle.std.specs.Bool.{nat_eq}
use Rattle.std.specs.Cmp.Lexicographic.{pointwise}
use Rattle.std.specs.Option.{option_map}
use Rattle.outside.specs.Names.{is_name}
use Rattle.lift_core.specs.declared.Tool.{Tool}
use Rattle.lift_core.specs.declared.Tool.TheVariants.{Graver, Hilbert, Zsolve}

-- whether the word has these bytes
abbrev pub is_word : List ℕ → List ℕ → Bool
is_word w text = pointwise nat_eq w text

-- the tool that a word names
abbrev pub tool_in : List ℕ → Option Tool
tool_in w =
    if is_word w (codes "graver") then Some Graver
    else (if is_word w (codes "hilbert") then Some Hilbert
    else (if is_word w (codes "zsolve") then Some Zsolve else None))

-- what the command is asked for
pub record Asked : Type 0 where
  pub tool : Tool
  pub project : List ℕ

-- the words are the name of a tool and then a project's
abbrev pub asked_in : List (List ℕ) → Option Asked
asked_in [] = None
asked_in (w ∷ []) = None
asked_in (w ∷ p ∷ []) =
    if is_name p then option_map (λ tool. record { tool = tool; project = p }) (tool_in w) else None
asked_in (w ∷ p ∷ q ∷ ws) = None

-- the project; nothing where the words are not of that form
abbrev pub project_of : Option Asked → List ℕ
project_of None = []
project_of (Some asked) = asked.project
