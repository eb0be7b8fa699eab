-- The flags and options of each command.
use Rattle.std.specs.Prelude.{ℕ, ◌==◌, Bool, false, List, [], ◌∷◌, codes}
use Rattle.std.specs.Str.{bytes_eq}
use Rattle.lift_core.specs.declared.Tool.{Tool}
use Rattle.lift_core.specs.declared.Tool.TheVariants.{Graver, Hilbert, Zsolve}

-- a flag, by its long name and its letter, or an option that takes a value, by its long name
pub data Choice : Type 0 where
  flag : List ℕ → ℕ → Choice
  valued : List ℕ → Choice

abbrev pub name_of : Choice → List ℕ
name_of (flag name letter) = name
name_of (valued name) = name

abbrev pub is_named : List ℕ → Choice → Bool
is_named name choice = bytes_eq (name_of choice) name

abbrev pub has_letter : ℕ → Choice → Bool
has_letter b (flag name letter) = letter == b
has_letter b (valued name) = false

-- what a command has alone
abbrev pub own_choices : Tool → List Choice
own_choices Graver = valued (codes "tables") ∷ []
own_choices Hilbert = []
own_choices Zsolve = []

-- the flags `-q` (113) and `-r` (114) and the options of a command
abbrev pub choices_of : Tool → List Choice
choices_of tool = flag (codes "quiet") 113 ∷ flag (codes "resume") 114
    ∷ valued (codes "workers") ∷ valued (codes "pairs") ∷ valued (codes "rows")
    ∷ valued (codes "backup") ∷ own_choices tool
