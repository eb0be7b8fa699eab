-- What the steps of the checking and of the walk say.
use Rattle.std.specs.Prelude.{◌≡◌, ◌⊎◌, ◌≤◌, ◌<◌, ◌+◌, ◌*◌, ◌*ℤ◌, ℕ, List, [], ◌∷◌, ◌++◌, ℤ, pos, nat_abs, length, IfSome, Bool, true, false, Option, None, Some, Result, Ok, Err}
use Rattle.std.specs.List.{AllByRecursion, flat_map}
use Rattle.int_vector.specs.Range.{InRange}
use Rattle.lift_core.specs.Systems.{LinearSystem, ObeysSigns, ObeysCaps}
use Rattle.solution_files.specs.Steps.{AreRows}
use Rattle.int_vector.specs.Vectors.{dot, largest, norm}
use Rattle.system_shape.specs.Problem.{equal_to, UserRow, UserSystem, Stands, full_vector}
use Rattle.system_shape.specs.Shape.{relation_of, user_system}
use Rattle.system_files.specs.Inputs.{IsShaped}
use Rattle.system_files.specs.declared.systems.Shaped.{Shaped}
use Rattle.decompose_tool.specs.declared.ends.RowFault.{RowFault}
use Rattle.decompose_tool.specs.declared.ends.Stop.{Stop}
use Rattle.decompose_tool.specs.declared.ends.Stop.TheVariants.{Usage, Input as BadInput, File, Shape, Row, Outside, Memory}
use Rattle.decompose_tool.specs.declared.reading.Sets.{Sets}
use Rattle.decompose_tool.specs.declared.rows.Standing.{Standing}
use Rattle.decompose_tool.specs.declared.walking.Walk.{Walk}
use Rattle.decompose_tool.specs.Rows.{times_of, set_parts, point_of, Part, IsSoundRow, HasFaultInRow, IsFirstUnsound, AreSound, IsFirstFault, AreOfRow, AreOfRows, AreCandidates}
use Rattle.decompose_tool.specs.Sets.{Plan}
use Rattle.decompose_tool.specs.Ends.{rows_of_terms}
use Rattle.decompose_tool.specs.Walks.{Term, IsWalk}
use Rattle.lift_core.specs.declared.Tool.{Tool}

-- the user's system that was read
abbrev pub user_of : Shaped → UserSystem
user_of s = user_system s.system.tool s.input

-- what is true of what was read
pub record IsRead (s : Shaped) : Type 0 where
  pub shaped : IsShaped s.system.tool s.input s.system
  pub rows : s.input.mat.rows ≤ 64
  pub columns : s.input.mat.cols ≤ 64

-- each row stands to c times its right side as its relation says
abbrev pub RowsStand : List UserRow → ℤ → List ℤ → Type 0
RowsStand rows c x =
    AllByRecursion (λ r. Stands r.relation (dot r.coefficients x) (r.right *ℤ c)) rows

-- 0 or 1
abbrev pub IsTimes : ℤ → Type 0
IsTimes c = (c ≡ pos 0) ⊎ (c ≡ pos 1)

-- how the product of a row with x stands to c times its right side
pub record IsStanding (r : UserRow) (c : ℤ) (x : List ℤ) (s : Standing) : Type 0 where
  pub relation : relation_of s.relation ≡ r.relation
  pub product : s.product ≡ dot r.coefficients x
  pub right : s.right ≡ r.right *ℤ c
  pub small : nat_abs s.product ≤ 9223372036854775808 * 9223372036854775807

abbrev pub no_row : UserRow
no_row = record { coefficients = []; relation = equal_to; right = pos 0 }

abbrev pub in_front : Option ℤ → List ℤ → List ℤ
in_front None rest = rest
in_front (Some d) rest = d ∷ rest

-- the buffer has gained these entries; or the norm of all together is out of range
abbrev pub FillsRows : List ℤ → List ℤ → List ℤ → Bool → Type 0
FillsRows old entries new true = new ≡ old ++ entries
FillsRows old entries new false = largest < norm (old ++ entries)

-- all files have n columns, and the point is one row
pub record AreInShape (n : ℕ) (sets : Sets) : Type 0 where
  pub first : sets.first.cols ≡ n
  pub second : IfSome sets.second (λ m. m.cols ≡ n)
  pub point : sets.point.cols ≡ n
  pub row : sets.point.rows ≡ 1

-- the buffer has the full vector, whose norm is in range; or that is out of range
abbrev pub Fills : List ℤ → List ℤ → Bool → Type 0
Fills full buffer true = (buffer ≡ full) × (norm full ≤ largest)
Fills full buffer false = largest < norm full

-- what a row's check answers
abbrev pub Checks : UserSystem → ℤ → List ℤ → Option RowFault → Type 0
Checks U c x None = IsSoundRow U c x
Checks U c x (Some fault) = HasFaultInRow U c x fault

-- what the check of a file answers
abbrev pub ChecksPart : UserSystem → Part → Result (Unit {0}) Stop → Type 0
ChecksPart U p (Ok _) = AreSound U p
ChecksPart U p (Err (Row f i fault)) = (f ≡ p.file) × IsFirstUnsound U p.times p.rows i fault
ChecksPart U p (Err Memory) = Unit {0}
ChecksPart U p (Err Outside) = ⊥
ChecksPart U p (Err Usage) = ⊥
ChecksPart U p (Err (BadInput fault)) = ⊥
ChecksPart U p (Err (File f fault)) = ⊥
ChecksPart U p (Err (Shape f rows cols)) = ⊥

-- and of several files
abbrev pub ChecksAll : UserSystem → List Part → Result (Unit {0}) Stop → Type 0
ChecksAll U parts (Ok _) = AllByRecursion (AreSound U) parts
ChecksAll U parts (Err (Row f i fault)) = IsFirstFault U parts f i fault
ChecksAll U parts (Err Memory) = Unit {0}
ChecksAll U parts (Err Outside) = ⊥
ChecksAll U parts (Err Usage) = ⊥
ChecksAll U parts (Err (BadInput fault)) = ⊥
ChecksAll U parts (Err (File f fault)) = ⊥
ChecksAll U parts (Err (Shape f rows cols)) = ⊥

-- the entries of the lines of these terms
abbrev pub cells_of : ℕ → List Term → List ℤ
cells_of n terms = flat_map (λ row. row) (rows_of_terms n terms)

-- v obeys the signs and the caps
abbrev pub Obeys : LinearSystem → List ℤ → Type 0
Obeys S v = ObeysSigns S v × ObeysCaps S v

-- what is left has w entries, all in range
pub record HasRest (w : ℕ) (walk : Walk) : Type 0 where
  pub width : length walk.rest.items ≡ w
  pub range : AllByRecursion InRange walk.rest.items

-- all of v is left
pub record IsAllLeft (v : List ℤ) (walk : Walk) : Type 0 where
  pub rest : walk.rest.items ≡ v
  pub terms : walk.terms ≡ 0
  pub cells : walk.cells.items ≡ []

-- the walk went on over these candidates
pub record WalksOn (n : ℕ) (us : List (List ℤ)) (old new : Walk) : Type 0 where
  pub terms : List Term
  pub walk : IsWalk us old.rest.items terms new.rest.items
  pub rows : AreRows (n + 1) (rows_of_terms n terms)
  pub cells : new.cells.items ≡ old.cells.items ++ cells_of n terms
  pub count : new.terms ≡ old.terms + length terms

-- it went on over them where P holds
abbrev pub GoesOnWhere : Type 0 → ℕ → List (List ℤ) → Walk → Walk → Type 0
GoesOnWhere P n us old new = (P × WalksOn n us old new) ⊎ ((P → ⊥) × WalksOn n [] old new)

-- and over those of a row, of several rows, and of several files
abbrev pub GoesOverRow : ℕ → Tool → UserSystem → ℤ → List ℤ → Walk → Walk → Type 0
GoesOverRow n tool U c x old new =
    (us : List (List ℤ)) × AreOfRow tool U c x us × WalksOn n us old new

abbrev pub GoesOverRows : ℕ → Tool → UserSystem → ℤ → List (List ℤ) → Walk → Walk → Type 0
GoesOverRows n tool U c rows old new =
    (us : List (List ℤ)) × AreOfRows tool U c rows us × WalksOn n us old new

abbrev pub GoesOverParts : ℕ → Tool → UserSystem → List Part → Walk → Walk → Type 0
GoesOverParts n tool U parts old new =
    (us : List (List ℤ)) × AreCandidates tool U parts us × WalksOn n us old new

-- the whole walk over the candidates of the set
pub record Walked (s : Shaped) (sets : Sets) (walk : Walk) : Type 0 where
  pub candidates : List (List ℤ)
  pub terms : List Term
  pub candidates_are :
      AreCandidates s.system.tool (user_of s) (set_parts s.system.tool sets) candidates
  pub walk_is :
      IsWalk candidates (full_vector (user_of s) (times_of s.system.tool) (point_of sets)) terms
      walk.rest.items
  pub rows : AreRows (s.input.mat.cols + 1) (rows_of_terms s.input.mat.cols terms)
  pub cells : walk.cells.items ≡ cells_of s.input.mat.cols terms
  pub count : walk.terms ≡ length terms

-- the plan of what was read
abbrev pub plan_of : List ℕ → Shaped → Sets → Plan
plan_of project s sets = record {
  project = project;
  tool = s.system.tool;
  input = s.input;
  sets = sets;
}
