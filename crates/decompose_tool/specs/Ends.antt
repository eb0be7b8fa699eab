-- How a run ends, what it leaves, and what it says.
use Rattle.std.specs.Prelude.{◌≡◌, ◌⊎◌, ◌≤◌, ◌+◌, ℕ, ℤ, pos, List, [], ◌∷◌, ◌++◌, map, length, take, Option, Result, Ok, Err, codes, decimal}
use Rattle.std.specs.Option.{option_map}
use Rattle.std.specs.List.{AllByRecursion}
use Rattle.std.specs.Io.KnownBytes.{append_known}
use Rattle.outside.specs.Causes.{Rose}
use Rattle.outside.specs.Files.{Files}
use Rattle.outside.specs.Pieces.{text_of_parts, MayPut}
use Rattle.outside.specs.declared.ends.PutEnd.{PutEnd}
use Rattle.outside.specs.declared.ends.PutEnd.TheVariants as put
use Rattle.int_vector.specs.Operations.{total}
use Rattle.int_vector.specs.Vectors.{◌⊑◌, IsZero}
use Rattle.mat_files.specs.Cells.{Matrix}
use Rattle.mat_files.specs.Printed.{text_of}
use Rattle.system_shape.specs.Problem.{UserSystem, full_vector}
use Rattle.system_shape.specs.Shape.{user_system}
use Rattle.solution_files.specs.Outputs.{written, MayWrite, text_of_rows}
use Rattle.tool_frame.specs.Outputs.{OutputFile, Traces, IsUntouched, IsWhole, IsPartly}
use Rattle.decompose_tool.specs.declared.ends.DecEnd.{DecEnd}
use Rattle.decompose_tool.specs.declared.ends.DecEnd.TheVariants as end
use Rattle.decompose_tool.specs.declared.ends.Ending.{Ending}
use Rattle.decompose_tool.specs.declared.ends.Ending.TheVariants.{Done, Left}
use Rattle.decompose_tool.specs.declared.ends.RowFault.TheVariants.{Range, NotSolution}
use Rattle.decompose_tool.specs.declared.ends.Stop.{Stop}
use Rattle.decompose_tool.specs.declared.ends.Stop.TheVariants.{Usage, Input as BadInput, File, Shape, Row, Outside, Memory}
use Rattle.decompose_tool.specs.Rows.{times_of, set_parts, all_parts, point_of, AreSound, IsFirstFault, AreCandidates, HoldWanted}
use Rattle.decompose_tool.specs.Sets.{Plan}
use Rattle.decompose_tool.specs.Walks.{Term, IsWalk, multiples, vectors, AreDifferent}

-- the exit status
abbrev pub code_of : DecEnd → ℕ
code_of (end.Done terms) = 0
code_of (end.Left rest) = 2
code_of end.Usage = 1
code_of (end.Input fault) = 2
code_of (end.File f fault) = 2
code_of (end.Shape f) = 2
code_of (end.NotSolution f row) = 2
code_of (end.Range f row) = 2
code_of end.Outside = 5
code_of end.Memory = 6

-- the end of a run
abbrev pub end_of : Result Ending Stop → DecEnd
end_of (Ok (Done terms)) = end.Done terms
end_of (Ok (Left rest)) = end.Left rest
end_of (Err Usage) = end.Usage
end_of (Err (BadInput fault)) = end.Input fault
end_of (Err (File f fault)) = end.File f fault
end_of (Err (Shape f rows cols)) = end.Shape f
end_of (Err (Row f row NotSolution)) = end.NotSolution f row
end_of (Err (Row f row Range)) = end.Range f row
end_of (Err Outside) = end.Outside
end_of (Err Memory) = end.Memory

abbrev pub stop_of : PutEnd → Stop
stop_of put.Failed = Outside
stop_of put.Memory = Memory

-- the summary on standard output
abbrev pub summary_of : ℕ → List ℕ
summary_of terms = text_of_parts (decimal terms ∷ codes " terms\n" ∷ [])

-- the line of a term: how often, and the first n entries of its vector
abbrev pub row_of_term : ℕ → Term → List ℤ
row_of_term n t = pos t.count ∷ take n t.vector

abbrev pub rows_of_terms : ℕ → List Term → List (List ℤ)
rows_of_terms n terms = map (row_of_term n) terms

-- the file of these terms
abbrev pub output_of : ℕ → List Term → OutputFile
output_of n terms = record {
  ending = codes ".dec";
  text = text_of_rows (n + 1) (rows_of_terms n terms);
}

-- ---- what the run of a plan comes to
abbrev pub planned_system : Plan → UserSystem
planned_system p = user_system p.tool p.input

-- the full vector of the point
abbrev pub full_point : Plan → List ℤ
full_point p = full_vector (planned_system p) (times_of p.tool) (point_of p.sets)

-- each row of each file is taken
abbrev pub AreAllSound : Plan → Type 0
AreAllSound p = AllByRecursion (AreSound (planned_system p)) (all_parts p.tool p.sets)

-- the walk over the candidates of the set from the full vector of the point
pub record IsWalkOf (p : Plan) (candidates : List (List ℤ)) (terms : List Term) (left : List ℤ)
    : Type 0 where
  pub sound : AreAllSound p
  pub candidates_are : AreCandidates p.tool (planned_system p) (set_parts p.tool p.sets) candidates
  pub walk : IsWalk candidates (full_point p) terms left

-- the terms add up to the vector, each is below it, and no two are the same
pub record AddUpTo (terms : List Term) (v : List ℤ) : Type 0 where
  pub sum : total (length v) (multiples terms) ≡ v
  pub below : AllByRecursion (λ u. u ⊑ v) (vectors terms)
  pub differ : AreDifferent (vectors terms)

-- the walk leaves nothing
pub record IsDecomposed (p : Plan) (terms : List Term) : Type 0 where
  pub candidates : List (List ℤ)
  pub left : List ℤ
  pub walk : IsWalkOf p candidates terms left
  pub nothing : IsZero left
  pub whole : AddUpTo terms (full_point p)

-- the terms are written, and how many they are is told
pub record IsDone (p : Plan) (t : Traces) (count : ℕ) : Type 0 where
  pub terms : List Term
  pub decomposed : IsDecomposed p terms
  pub count_is : count ≡ length terms
  pub whole : IsWhole p.project (output_of p.input.mat.cols terms ∷ []) (summary_of count) t

-- the writing of the terms, or the telling, was cut
pub record IsCutShort (p : Plan) (t : Traces) : Type 0 where
  pub terms : List Term
  pub decomposed : IsDecomposed p terms
  pub part :
      IsPartly p.project (output_of p.input.mat.cols terms ∷ []) (summary_of (length terms)) t

-- this is left, which is not zero, and no candidate is below it
pub record IsLeft (p : Plan) (t : Traces) (rest : List ℤ) : Type 0 where
  pub candidates : List (List ℤ)
  pub terms : List Term
  pub walk : IsWalkOf p candidates terms rest
  pub nonzero : ¬ IsZero rest
  pub nothing_fits : AllByRecursion (λ u. u ⊑ rest → ⊥) candidates
  pub untouched : IsUntouched t

-- the end of a plan, and what stands then
abbrev pub EndsWith : Plan → Traces → Result Ending Stop → Type 0
EndsWith p t (Ok (Done count)) = IsDone p t count
EndsWith p t (Ok (Left rest)) = IsLeft p t rest
EndsWith p t (Err (Row f i fault)) =
    IsFirstFault (planned_system p) (all_parts p.tool p.sets) f i fault × IsUntouched t
EndsWith p t (Err Outside) = IsUntouched t ⊎ IsCutShort p t
EndsWith p t (Err Memory) = IsUntouched t ⊎ IsCutShort p t
EndsWith p t (Err Usage) = ⊥
EndsWith p t (Err (BadInput fault)) = ⊥
EndsWith p t (Err (File f fault)) = ⊥
EndsWith p t (Err (Shape f rows cols)) = ⊥

-- the end is the one that the words and the files decide, and this is what stands then; a device's
-- fault and running out of memory come by themselves
abbrev pub Ends : Result Plan Stop → Traces → Result Ending Stop → Type 0
Ends plan t (Ok ending) = (p : Plan) × (plan ≡ Ok p) × EndsWith p t (Ok ending)
Ends plan t (Err (Row f i fault)) = (p : Plan) × (plan ≡ Ok p) × EndsWith p t (Err (Row f i fault))
Ends plan t (Err Usage) = (plan ≡ Err Usage) × IsUntouched t
Ends plan t (Err (BadInput fault)) = (plan ≡ Err (BadInput fault)) × IsUntouched t
Ends plan t (Err (File f fault)) = (plan ≡ Err (File f fault)) × IsUntouched t
Ends plan t (Err (Shape f rows cols)) = (plan ≡ Err (Shape f rows cols)) × IsUntouched t
Ends plan t (Err Outside) = IsUntouched t ⊎ ((p : Plan) × (plan ≡ Ok p) × IsCutShort p t)
Ends plan t (Err Memory) = IsUntouched t ⊎ ((p : Plan) × (plan ≡ Ok p) × IsCutShort p t)

-- where the set files hold what the tool writes, nothing is left
abbrev pub NothingLeft : Result Plan Stop → DecEnd → Type 0
NothingLeft plan result =
    (p : Plan) → plan ≡ Ok p → HoldWanted p.tool (planned_system p) p.sets
    → (rest : List ℤ) → result ≡ end.Left rest → ⊥

-- ---- the steps of the writing
-- the summary was put, or a prefix of it
abbrev pub Told : ℕ → Option (List ℕ) → Option (List ℕ) → Result Ending Stop → Type 0
Told terms old new (Ok (Done n)) = (n ≡ terms) × (new ≡ append_known old (summary_of terms))
Told terms old new (Ok (Left rest)) = ⊥
Told terms old new (Err Outside) = MayPut (summary_of terms) old new
Told terms old new (Err Memory) = MayPut (summary_of terms) old new
Told terms old new (Err Usage) = ⊥
Told terms old new (Err (BadInput fault)) = ⊥
Told terms old new (Err (File f fault)) = ⊥
Told terms old new (Err (Shape f rows cols)) = ⊥
Told terms old new (Err (Row f row fault)) = ⊥

-- the writing of the matrix or the telling was cut
abbrev pub Cut : List ℕ → Matrix → Option Files → Option Files → Option (List ℕ) → Option (List ℕ)
    → Type 0
Cut project grid old new out out' =
    (MayWrite (project ++ codes ".dec") (text_of grid) old new × (out' ≡ out))
    ⊎ ((new ≡ option_map (written (project ++ codes ".dec") (text_of grid)) old)
    × MayPut (summary_of grid.rows) out out')

abbrev pub Published : List ℕ → Matrix → Option Files → Option Files → Option (List ℕ)
    → Option (List ℕ) → Result Ending Stop → Type 0
Published project grid old new out out' (Ok (Done n)) =
    (n ≡ grid.rows) × (new ≡ option_map (written (project ++ codes ".dec") (text_of grid)) old)
    × (out' ≡ append_known out (summary_of n))
Published project grid old new out out' (Ok (Left rest)) = ⊥
Published project grid old new out out' (Err Outside) = Cut project grid old new out out'
Published project grid old new out out' (Err Memory) = Cut project grid old new out out'
Published project grid old new out out' (Err Usage) = ⊥
Published project grid old new out out' (Err (BadInput fault)) = ⊥
Published project grid old new out out' (Err (File f fault)) = ⊥
Published project grid old new out out' (Err (Shape f rows cols)) = ⊥
Published project grid old new out out' (Err (Row f row fault)) = ⊥

-- the counts have not fallen, and a device's fault is answered only where one of them rose
pub record HasCause {T : Type 0} (before now : ℕ) (result : Result T Stop) : Type 0 where
  pub later : before ≤ now
  pub failed : result ≡ Err Outside → Rose before now

pub record HasCauses (files_before files_now out_before out_now : ℕ) (result : Result Ending Stop)
    : Type 0 where
  pub files_later : files_before ≤ files_now
  pub out_later : out_before ≤ out_now
  pub failed : result ≡ Err Outside → Rose files_before files_now ⊎ Rose out_before out_now
