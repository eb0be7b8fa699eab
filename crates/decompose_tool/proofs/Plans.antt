-- From what was read to the plan of the run, and to its end.
use Rattle.std.proofs.Common.{◌≡◌, ℕ, List, [], refl, ap, sym, ◌∙◌, subst, inl, inr, arith, Option, None, Some, Result, Ok, Err, true, false}
use Rattle.std.specs.Prelude.{ℤ, ◌==◌, IfSome}
use Rattle.std.proofs.lemmas.Bool.{eqb-true}
use Rattle.outside.specs.Files.{Files}
use Rattle.int_vector.specs.Vectors.{IsZero}
use Rattle.mat_files.specs.Cells.{Matrix}
use Rattle.lift_core.specs.declared.Tool.{Tool}
use Rattle.lift_core.proofs.Cells.{length-cut_rows}
use Rattle.mat_files.specs.Tables.{◌>>=◌}
use Rattle.system_files.specs.Inputs.{accepted_in}
use Rattle.system_files.specs.Kernel.{rows_in}
use Rattle.system_files.specs.declared.systems.Shaped.{Shaped}
use Rattle.tool_frame.specs.Outputs.{Traces}
use Rattle.decompose_tool.specs.declared.ends.DecEnd.TheVariants as end
use Rattle.decompose_tool.specs.declared.ends.DecFile.{DecFile}
use Rattle.decompose_tool.specs.declared.ends.DecFile.TheVariants.{Zhom, Sol}
use Rattle.decompose_tool.specs.declared.ends.Ending.{Ending}
use Rattle.decompose_tool.specs.declared.ends.Ending.TheVariants.{Done, Left}
use Rattle.decompose_tool.specs.declared.ends.RowFault.TheVariants.{Range, NotSolution}
use Rattle.decompose_tool.specs.declared.ends.Stop.{Stop}
use Rattle.decompose_tool.specs.declared.ends.Stop.TheVariants.{Usage, Input as BadInput, File, Shape, Row, Outside, Memory}
use Rattle.decompose_tool.specs.declared.reading.Sets.{Sets}
use Rattle.decompose_tool.specs.declared.walking.Walk.{Walk}
use Rattle.decompose_tool.specs.Requests.{asked_in}
use Rattle.decompose_tool.specs.Sets.{Plan, first_file, fitting, second_fitting, point_fitting, all_fitting, sets_in, of_input, planned}
use Rattle.decompose_tool.specs.Rows.{is_zero, times_of, set_parts, point_of, IsSoundRow, AreSound, HoldWanted}
use Rattle.decompose_tool.specs.Ends.{end_of, EndsWith, Ends, NothingLeft, planned_system, AreAllSound}
use Rattle.decompose_tool.specs.Inside.Steps.{user_of, IsRead, AreInShape, Walked, plan_of}
use Rattle.decompose_tool.proofs.Candidates.{test_of_zero, each_first, each_second, of_parts, all_there}
use Rattle.decompose_tool.proofs.Filling.{each_at}
use Rattle.decompose_tool.proofs.Solving.{nothing_is_left}
use Rattle.decompose_tool.proofs.Concluding.{left_ends}

-- ---- files of the right shape
bind_ok : {A B : Type 0} (r : Result A Stop) (k : A → Result B Stop) (b : B) → (r >>= k) ≡ Ok b → (a : A) × (r ≡ Ok a) × (k a ≡ Ok b)
bind_ok (Ok a) k b e = (a, refl, e)
bind_ok (Err stop) k b e = absurd (cc)

fitting_is : (n : ℕ) (f : DecFile) (m : Matrix) (a : Unit {0}) → fitting n f m ≡ Ok a → m.cols ≡ n
fitting_is n f m a e =
    elim (m.cols == n) as (λ b. (m.cols == n) ≡ b → m.cols ≡ n) [
      | true ↦ λ p. eqb-true m.cols n p
      | false ↦ λ p. absurd (let g : fitting n f m ≡ Err (Shape f m.rows m.cols) = rw p refl in cc)
    ] refl

second_is : (n : ℕ) (o : Option Matrix) (a : Unit {0}) → second_fitting n o ≡ Ok a → IfSome o (λ m. m.cols ≡ n)
second_is n None a e = tt
second_is n (Some m) a e = fitting_is n Zhom m a e

point_is : (n : ℕ) (m : Matrix) (a : Unit {0}) → point_fitting n m ≡ Ok a → (m.rows ≡ 1) × (m.cols ≡ n)
point_is n m a e =
    elim (m.rows == 1) as (λ b. (m.rows == 1) ≡ b → (m.rows ≡ 1) × (m.cols ≡ n)) [
      | false ↦ λ p. absurd (let g : point_fitting n m ≡ Err (Shape Sol m.rows m.cols) = rw p refl in cc)
      | true ↦ λ p.
          elim (m.cols == n) as (λ b. (m.cols == n) ≡ b → (m.rows ≡ 1) × (m.cols ≡ n)) [
            | false ↦ λ q. absurd (let g : point_fitting n m ≡ Err (Shape Sol m.rows m.cols) = rw (p, q) refl in cc)
            | true ↦ λ q. (eqb-true m.rows 1 p, eqb-true m.cols n q)
          ] refl
    ] refl

pub in_shape : (tool : Tool) (n k : ℕ) (sets : Sets) → n ≡ k → all_fitting tool n sets ≡ Ok sets → AreInShape k sets
in_shape tool n k sets e h =
    let a = bind_ok (fitting n (first_file tool) sets.first) _ sets h in
    let b = bind_ok (second_fitting n sets.second) _ sets a.2 in
    let c = bind_ok (point_fitting n sets.point) _ sets b.2 in
    let p = point_is n sets.point c.0 c.1 in
    let shape : AreInShape n sets = record { first = fitting_is n (first_file tool) sets.first a.0 a.1; second = second_is n sets.second b.0 b.1; point = p.1; row = p.0 } in
    subst (λ (m : ℕ). AreInShape m sets) e shape

-- ---- the plan
planned_is : (words : List (List ℕ)) (files : Files) (tool : Tool) (project : List ℕ) (s : Shaped) (sets : Sets) (n : ℕ) → asked_in words ≡ Some (record { tool = tool; project = project }) →
    of_input (accepted_in tool project files) ≡ Ok s.input → n ≡ s.input.mat.cols → sets_in tool n project files ≡ Ok sets → s.system.tool ≡ tool → planned words files ≡ Ok (plan_of project s sets)
planned_is words files tool project s sets n asked input same found e =
    let found' : sets_in tool s.input.mat.cols project files ≡ Ok sets = subst (λ (k : ℕ). sets_in tool k project files ≡ Ok sets) same found in
    let p : planned words files ≡ Ok (record { project = project; tool = tool; input = s.input; sets = sets }) = rw (asked, input, found') refl in
    p ∙ ap (λ t. Ok (record { project = project; tool = t; input = s.input; sets = sets })) (sym e)

ends_of : (plan : Result Plan Stop) (p : Plan) (t : Traces) (result : Result Ending Stop) → plan ≡ Ok p → EndsWith p t result → Ends plan t result
ends_of plan p t (Ok ending) e h = (p, e, h)
ends_of plan p t (Err (Row f i fault)) e h = (p, e, h)
ends_of plan p t (Err Outside) e (inl h) = inl h
ends_of plan p t (Err Outside) e (inr h) = inr (p, e, h)
ends_of plan p t (Err Memory) e (inl h) = inl h
ends_of plan p t (Err Memory) e (inr h) = inr (p, e, h)
ends_of plan p t (Err Usage) e h = absurd h
ends_of plan p t (Err (BadInput fault)) e h = absurd h
ends_of plan p t (Err (File f fault)) e h = absurd h
ends_of plan p t (Err (Shape f r c)) e h = absurd h

is_left : (result : Result Ending Stop) (rest : List ℤ) → end_of result ≡ end.Left rest → result ≡ Ok (Left rest)
is_left (Ok (Done k)) rest e = absurd (cc)
is_left (Ok (Left r)) rest e = let f : r ≡ rest = cc in ap (λ v. Ok (Left v)) f
is_left (Err Usage) rest e = absurd (cc)
is_left (Err (BadInput fault)) rest e = absurd (cc)
is_left (Err (File f fault)) rest e = absurd (cc)
is_left (Err (Shape f r c)) rest e = absurd (cc)
is_left (Err (Row f i NotSolution)) rest e = absurd (cc)
is_left (Err (Row f i Range)) rest e = absurd (cc)
is_left (Err Outside) rest e = absurd (cc)
is_left (Err Memory) rest e = absurd (cc)

same_plan : (p q : Plan) (plan : Result Plan Stop) → plan ≡ Ok p → plan ≡ Ok q → q ≡ p
same_plan p q plan e f = let g : Ok q ≡ Ok p = sym f ∙ e in cc

module _ (words : List (List ℕ)) (tool : Tool) (project : List ℕ) (s : Shaped) (sets : Sets) (n : ℕ) (asked : asked_in words ≡ Some (record { tool = tool; project = project }))
    (cols : n ≡ s.input.mat.cols) (tool_is : s.system.tool ≡ tool) where
  ends_at : (old new : Option Files) (out out' : Option (List ℕ)) (result : Result Ending Stop) → IfSome old (λ files. of_input (accepted_in tool project files) ≡ Ok s.input) →
      IfSome old (λ files. sets_in tool n project files ≡ Ok sets) →
      IfSome old (λ files. EndsWith (plan_of project s sets) (record { files_before = files; files_after = new; out_before = out; out_after = out' }) result) →
      IfSome old (λ files. Ends (planned words files) (record { files_before = files; files_after = new; out_before = out; out_after = out' }) result)
  ends_at None new out out' result input found h = tt
  ends_at (Some files) new out out' result input found h =
      ends_of (planned words files) (plan_of project s sets) (record { files_before = files; files_after = new; out_before = out; out_after = out' }) result
      (planned_is words files tool project s sets n asked input cols found tool_is) h

  pub ends_finished : (old mid last new : Option Files) (out out' : Option (List ℕ)) (result : Result Ending Stop) → mid ≡ old → last ≡ mid →
      IfSome old (λ files. of_input (accepted_in tool project files) ≡ Ok s.input) → IfSome mid (λ files. sets_in tool n project files ≡ Ok sets) →
      IfSome last (λ files. EndsWith (plan_of project s sets) (record { files_before = files; files_after = new; out_before = out; out_after = out' }) result) →
      IfSome old (λ files. Ends (planned words files) (record { files_before = files; files_after = new; out_before = out; out_after = out' }) result)
  ends_finished old mid last new out out' result e f input found h =
      ends_at old new out out' result input (subst (λ (o : Option Files). IfSome o (λ files. sets_in tool n project files ≡ Ok sets)) e found)
      (subst (λ (o : Option Files). IfSome o (λ files. EndsWith (plan_of project s sets) (record { files_before = files; files_after = new; out_before = out; out_after = out' }) result)) (f ∙ e) h)

  whole_at : (old : Option Files) (result : Result Ending Stop) → IfSome old (λ files. of_input (accepted_in tool project files) ≡ Ok s.input) →
      IfSome old (λ files. sets_in tool n project files ≡ Ok sets) → (HoldWanted s.system.tool (user_of s) sets → (rest : List ℤ) → result ≡ Ok (Left rest) → ⊥) →
      IfSome old (λ files. NothingLeft (planned words files) (end_of result))
  whole_at None result input found never = tt
  whole_at (Some files) result input found never = λ p e wanted rest left.
      let is : planned words files ≡ Ok (plan_of project s sets) = planned_is words files tool project s sets n asked input cols found tool_is in
      let same : p ≡ plan_of project s sets = same_plan (plan_of project s sets) p (planned words files) is e in
      never (subst (λ (q : Plan). HoldWanted q.tool (planned_system q) q.sets) same wanted) rest (is_left result rest left)

  pub whole_finished : (old mid : Option Files) (result : Result Ending Stop) → mid ≡ old → IfSome old (λ files. of_input (accepted_in tool project files) ≡ Ok s.input) →
      IfSome mid (λ files. sets_in tool n project files ≡ Ok sets) → (HoldWanted s.system.tool (user_of s) sets → (rest : List ℤ) → result ≡ Ok (Left rest) → ⊥) →
      IfSome old (λ files. NothingLeft (planned words files) (end_of result))
  whole_finished old mid result e input found never =
      whole_at old result input (subst (λ (o : Option Files). IfSome o (λ files. sets_in tool n project files ≡ Ok sets)) e found) never

-- ---- what is left
pub left_finished : (project : List ℕ) (s : Shaped) (sets : Sets) (sound : AreAllSound (plan_of project s sets)) (walk : Walk) (w : Walked s sets walk) (old : Option Files) (out : Option (List ℕ)) (rest : List ℤ) →
    is_zero walk.rest.items ≡ false → rest ≡ walk.rest.items →
    IfSome old (λ files. EndsWith (plan_of project s sets) (record { files_before = files; files_after = old; out_before = out; out_after = out }) (Ok (Left rest)))
left_finished project s sets sound walk w None out rest e f = tt
left_finished project s sets sound walk w (Some files) out rest e f =
    subst (λ (r : List ℤ). EndsWith (plan_of project s sets) (record { files_before = files; files_after = Some files; out_before = out; out_after = out }) (Ok (Left r))) (sym f)
    (left_ends project s sets sound walk w (record { files_before = files; files_after = Some files; out_before = out; out_after = out }) e (record { files = refl; out = refl }))

point_sound : (s : Shaped) (sets : Sets) (project : List ℕ) → AreInShape s.input.mat.cols sets → AreAllSound (plan_of project s sets) → IsSoundRow (user_of s) (times_of s.system.tool) (point_of sets)
point_sound s sets project shape sound =
    let last = each_second (AreSound (user_of s)) (set_parts s.system.tool sets) _ sound in
    each_at (IsSoundRow (user_of s) (times_of s.system.tool)) (rows_in sets.point) 0 [] last.0 (omega (arith, length-cut_rows sets.point.rows sets.point.cols sets.point.cells, shape.row))

pub never_left : (project : List ℕ) (s : Shaped) (sets : Sets) (walk : Walk) → IsRead s → AreInShape s.input.mat.cols sets → AreAllSound (plan_of project s sets) → Walked s sets walk →
    is_zero walk.rest.items ≡ false → HoldWanted s.system.tool (user_of s) sets → ⊥
never_left project s sets walk r shape sound w e wanted =
    let U = user_of s in
    let solutions = of_parts s.system.tool U (set_parts s.system.tool sets) w.candidates (each_first (AreSound U) (set_parts s.system.tool sets) _ sound) w.candidates_are in
    let there = all_there s.system.tool U sets w.candidates refl wanted w.candidates_are in
    let zero : IsZero walk.rest.items =
    nothing_is_left U (times_of s.system.tool) (point_of sets) w.candidates w.terms walk.rest.items r.shaped.formed (point_sound s sets project shape sound).solution solutions there w.walk_is in
    let f : is_zero walk.rest.items ≡ true = test_of_zero walk.rest.items zero in cc
