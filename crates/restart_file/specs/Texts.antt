-- The text of a restart file. Each line ends with LF, and the numbers of a line are joined by one space.
use Rattle.std.specs.Prelude.{ℕ, List, [], ◌∷◌, ◌++◌, ℤ, pos, Bool, Option, Some, None, length, map, codes, decimal}
use Rattle.std.specs.List.{count_by, concat}
use Rattle.std.specs.Ordering.{int_eq}
use Rattle.sha2.specs.Sha256.{sha256}
use Rattle.hex.specs.Hex.{encode_lower}
use Rattle.mat_files.specs.Texts.{line_of}
use Rattle.lift_core.specs.declared.Tool.{Tool}
use Rattle.lift_core.specs.declared.Tool.TheVariants.{Graver, Hilbert, Zsolve}
use Rattle.lift_core.specs.Systems.{ToolSystem}
use Rattle.lift_core.specs.ToolSystems.{width}
use Rattle.lift_core.specs.Stages.{last, has_positive_last, has_negative_last}
use Rattle.stage_store.specs.Stage.{StageValue, used_of}
use Rattle.restart_file.specs.declared.lines.Version.{Version}
use Rattle.restart_file.specs.declared.lines.Version.TheVariants.{First, Second}

-- ---- lines
-- texts joined by one space
abbrev pub spaced : List (List ℕ) → List ℕ
spaced [] = []
spaced (t ∷ []) = t
spaced (t ∷ u ∷ ts) = t ++ 32 ∷ spaced (u ∷ ts)

-- a word and counts
abbrev pub counts_line : List ℕ → List ℕ → List ℕ
counts_line word counts = word ++ spaced (map decimal counts) ++ 10 ∷ []

abbrev pub version_line : Version → List ℕ
version_line First = codes "restart 1\n"
version_line Second = codes "restart 2\n"

abbrev pub tool_line : Tool → List ℕ
tool_line Graver = codes "tool graver\n"
tool_line Hilbert = codes "tool hilbert\n"
tool_line Zsolve = codes "tool zsolve\n"

abbrev pub shape_line : ToolSystem → List ℕ
shape_line S = counts_line (codes "shape ") (S.n ∷ width S.equations ∷ length S.equations.rows ∷ [])

abbrev pub signs_line : ToolSystem → List ℕ
signs_line S = codes "signs " ++ line_of S.equations.signs

-- a number, or * for none
abbrev pub cap_text : Option ℕ → List ℕ
cap_text None = codes "*"
cap_text (Some c) = decimal c

abbrev pub caps_line : ToolSystem → List ℕ
caps_line S = codes "caps " ++ spaced (map cap_text S.equations.caps) ++ 10 ∷ []

abbrev pub row_line : List ℤ → List ℕ
row_line r = codes "row " ++ line_of r

-- ---- the text
-- where a run stands, beside its system
pub record Progress : Type 0 where
  pub number : ℕ
  pub norm : ℕ
  pub used : ℕ
  pub listed : List (List ℤ)
  pub waiting : List (List ℤ)

abbrev pub progress_of : StageValue → Progress
progress_of s = record {
  number = s.number;
  norm = s.norm;
  used = used_of s;
  listed = s.listed;
  waiting = s.waiting;
}

-- the lines of the system
abbrev pub system_lines : Version → ToolSystem → List (List ℕ)
system_lines First S =
    tool_line S.tool ∷ shape_line S ∷ signs_line S ∷ map row_line S.equations.rows
system_lines Second S =
    tool_line S.tool ∷ shape_line S ∷ signs_line S ∷ caps_line S ∷ map row_line S.equations.rows

abbrev pub has_zero_last : List ℤ → Bool
has_zero_last z = int_eq (last z) (pos 0)

-- how many rows have a last entry above 0, 0, and below 0
abbrev pub class_counts : List (List ℤ) → List ℕ
class_counts rows =
    count_by has_positive_last rows ∷ count_by has_zero_last rows ∷ count_by has_negative_last rows
    ∷ []

abbrev pub class_lines : Version → List (List ℤ) → List (List ℕ)
class_lines First rows = []
class_lines Second rows = counts_line (codes "classes ") (class_counts rows) ∷ []

abbrev pub waiting_lines : Progress → List (List ℕ)
waiting_lines p = counts_line (codes "waiting ") (length p.waiting ∷ []) ∷ map line_of p.waiting

abbrev pub listed_lines : Version → Progress → List (List ℕ)
listed_lines v p = map line_of p.listed ++ (class_lines v p.listed ++ waiting_lines p)

abbrev pub place_lines : Version → Progress → List (List ℕ)
place_lines v p =
    counts_line (codes "place ") (p.number ∷ p.norm ∷ [])
    ∷ counts_line (codes "used ") (p.used ∷ [])
    ∷ counts_line (codes "listed ") (length p.listed ∷ [])
    ∷ listed_lines v p

-- all lines but the last
abbrev pub restart_lines : Version → ToolSystem → Progress → List (List ℕ)
restart_lines v S p = version_line v ∷ (system_lines v S ++ place_lines v p)

-- the digest of all bytes before it
abbrev pub digest_line : List ℕ → List ℕ
digest_line bytes = codes "digest " ++ encode_lower (sha256 bytes) ++ 10 ∷ []

abbrev pub sealed : List ℕ → List ℕ
sealed bytes = bytes ++ digest_line bytes

abbrev pub restart_text : Version → ToolSystem → Progress → List ℕ
restart_text v S p = sealed (concat (restart_lines v S p))

-- the text of a stage
abbrev pub text_of_stage : StageValue → List ℕ
text_of_stage s = restart_text Second s.system (progress_of s)
