-- The output file of selected rows: its text, how many rows it has, and the sum of their norms.
use Rattle.std.proofs.Common.{◌≡◌, ℕ, ◌+◌, List, [], ◌∷◌, ◌++◌, length, refl, ap, sym, ◌∙◌, subst, arith, Bool, true, false}
use Rattle.lift_core.specs.Systems.{ToolSystem}
use Rattle.lift_core.specs.declared.Tool.{Tool}
use Rattle.lift_core.specs.declared.Tool.TheVariants.{Graver, Hilbert, Zsolve}
use Rattle.solution_files.specs.declared.selection.Kind.{Kind}
use Rattle.solution_files.specs.declared.selection.Kind.TheVariants.{All}
use Rattle.lift_core.specs.Columns.{Every, Homogeneous, Inhomogeneous}
use Rattle.lift_core.specs.Inside.Written.{IsWrittenOf, IsWanted, IsWantedGraver}
use Rattle.int_vector.specs.Vectors.{negated, leads_negative, norm}
use Rattle.lift_core.specs.Columns as core
use Rattle.system_shape.specs.Laws.{IsWellFormed, HasKind}
use Rattle.system_shape.specs.Shape.{user_system, tool_system}
use Rattle.system_shape.specs.declared.files.Input.{Input}
use Rattle.system_shape.specs.Slacks.{linear_system}
use Rattle.system_shape.specs.Problem.{UserSystem, IsMinimalOfKind, IsWantedForUser, IsWantedGraverForUser}
use Rattle.system_shape.proofs.Solutions.{written as written_for_user, same_list, same_pairs}
use Rattle.solution_files.specs.Laws.{AreAllSolutions}
use Rattle.solution_files.proofs.GridText.{text_of-rows}
use Rattle.solution_files.proofs.WantedLists.{wanted_plain, wanted_graver}
use Rattle.tool_top.specs.Inside.Writing.{IsWantedBy, AreFilesOf, AreSelectedOf}
use Rattle.std.specs.Prelude.{ℤ, IsTrue}
use Rattle.std.specs.List.{flat_map, sum_by}
use Rattle.std.proofs.lemmas.List.Sums.{sum_by-cons}
use Rattle.mat_files.specs.Cells.{Matrix}
use Rattle.mat_files.specs.Printed.{text_of}
use Rattle.solution_files.specs.Outputs.{grid_of, text_of_rows, kind_of, IsSelected, IsSelection}
use Rattle.tool_top.specs.declared.ends.Part.{Part}
use Rattle.lift_core.specs.Ends.{finished as run_finished}
use Rattle.system_files.specs.Inputs.{IsShaped}
use Rattle.lift_core.proofs.Lists.{each_from_contained, each_contained}
use Rattle.stage_store.specs.declared.stage.Finish.{Finish}
use Rattle.lift_run.specs.Runs.{IsOfSystem, HasAllSolutions}
use Rattle.solution_files.specs.Outputs.{IsProjected, IsTaken}
use Rattle.solution_files.specs.declared.selection.Kind.TheVariants.{Hom, Inhom}
use Rattle.backups.specs.declared.starts.Slot.TheVariants.{First, Second}
use Rattle.backups.specs.declared.starts.Start.{Start}
use Rattle.backups.specs.declared.starts.Start.TheVariants.{Fresh, Resumed}
use Rattle.backups.specs.Starts.{Stored, StartComesTo, IsDefinedStart, system_of}
use Rattle.backups.specs.Standing.{IsSolution, AreSolutions, IsSoundFrom}
use Rattle.tool_top.specs.Plan.{Plan, resumes}
use Rattle.tool_words.specs.declared.jobs.Job.{Job}
use Rattle.tool_top.specs.Outputs.{OutputFile, file_of, AreOutputsOf, AreSoundOf, AreOutputs, IsPartOfSolution, ArePartsOfSolutions}
use Rattle.tool_top.specs.Expected.{limits_of, Starts, StartsAs, Finishes}

norm-append : (u v : List ℤ) → norm (u ++ v) ≡ norm u + norm v
norm-append [] v = omega arith
norm-append (x ∷ u) v = omega (arith, norm-append u v)

norm-flat : (rows : List (List ℤ)) → norm (flat_map (λ r. r) rows) ≡ sum_by norm rows
norm-flat [] = refl
norm-flat (r ∷ rows) = norm-append r (flat_map (λ x. x) rows) ∙ ap (λ n. norm r + n) (norm-flat
    rows) ∙ sym (sum_by-cons norm r rows)

selected_file : (part : Part) (n : ℕ) (rows : List (List ℤ)) (grid : Matrix)
    → grid ≡ grid_of n rows → text_of grid ≡ text_of_rows n rows
    → record { part = part; text = text_of grid; rows = grid.rows; norms = norm grid.cells } ≡
    file_of part n rows
selected_file part n rows grid is text =
    let norms : norm grid.cells ≡ sum_by norm rows = ap (λ (g : Matrix). norm g.cells) is ∙ norm-flat rows in
    let count : grid.rows ≡ length rows = ap (λ (g : Matrix). g.rows) is in
    λ i. record { part = part; text = text i; rows = count i; norms = norms i }

-- what is selected from all minimal solutions is what the tool wants
selected_wanted : (tool : Tool) (S : ToolSystem) (finished rows : List (List ℤ)) (kind : Kind)
    → S.tool ≡ tool → (tool ≡ Graver → kind ≡ All) → AreAllSolutions S finished
    → IsSelected S finished kind rows
    → IsWantedBy tool S (kind_of kind) rows
selected_wanted Graver S finished rows kind is every all h = wanted_graver S.equations S.n finished
    all S.tool rows is (subst (λ k. IsSelected S finished k rows) (every refl) h)
selected_wanted Hilbert S finished rows kind is every all h = wanted_plain S.equations S.n finished
    all S.tool (kind_of kind) rows (λ e. let f : Hilbert ≡ Graver = sym is ∙ e in cc) h
selected_wanted Zsolve S finished rows kind is every all h = wanted_plain S.equations S.n finished
    all S.tool (kind_of kind) rows (λ e. let f : Zsolve ≡ Graver = sym is ∙ e in cc) h

pub selected_output : (S : ToolSystem) (finished : List (List ℤ)) (kind : Kind) (part : Part) (grid
    : Matrix) → IsSelection S finished kind grid
    → (rows : List (List ℤ)) × IsSelected S finished kind rows × (record {
      part = part;
      text =
          text_of grid;
      rows = grid.rows;
      norms = norm grid.cells;
    } ≡ file_of part S.n rows)
selected_output S finished kind part grid h = (
  h.rows,
  h.selected,
  selected_file part S.n h.rows grid h.grid_is (ap text_of h.grid_is ∙
      text_of-rows S.n h.rows h.lengths),
)

-- of all minimal solutions
files_wanted : (tool : Tool) (S : ToolSystem) (finished : List (List ℤ)) (files : List OutputFile) →
    S.tool ≡ tool → AreAllSolutions S finished → AreSelectedOf tool S finished files → AreFilesOf tool S files
files_wanted Graver S finished files is all h = (
  h.0,
  selected_wanted Graver S finished h.0 All is
      (λ e. refl) all h.1,
  h.2,
)
files_wanted Hilbert S finished files is all h = (
  h.0,
  selected_wanted Hilbert S finished h.0 All is
      (λ e. refl) all h.1,
  h.2,
)
files_wanted Zsolve S finished files is all h = (
  h.0,
  h.1,
  selected_wanted Zsolve S finished h.0 Hom is (λ e. absurd (no_graver e)) all h.2,
  selected_wanted Zsolve S finished h.1 Inhom is (λ e. absurd (no_graver e)) all h.3,
  h.4,
)
  where
    no_graver : Zsolve ≡ Graver → ⊥
    no_graver e = cc

-- of any solutions
taken_projected : (tool : Tool) (finished : List (List ℤ)) (n : ℕ) (kind : core.SolutionKind) (x : List ℤ) →
    IsTaken tool finished n kind x → IsProjected finished n kind x
taken_projected Graver finished n kind x h = h.0
taken_projected Hilbert finished n kind x h = h
taken_projected Zsolve finished n kind x h = h

parts_selected : (S : ToolSystem) (finished : List (List ℤ)) (kind : Kind) (rows : List (List ℤ))
    → AreSolutions S.equations finished → IsSelected S finished kind rows
    → ArePartsOfSolutions S (kind_of kind) rows
parts_selected S finished kind rows sound h = each_from_contained (IsPartOfSolution S.equations S.n
    (kind_of kind)) rows (λ x c.
    let p : IsProjected finished S.n (kind_of kind) x = taken_projected S.tool finished S.n (kind_of
    kind) x ((h.members x).0 c) in
    record {
      solution = p.solution;
      solves = each_contained (IsSolution S.equations) finished
          p.solution sound p.among;
      x0 = p.home;
      is = p.is;
    })

files_sound : (tool : Tool) (S : ToolSystem) (finished : List (List ℤ)) (files : List OutputFile)
    → AreSolutions S.equations finished → AreSelectedOf tool S finished files → AreSoundOf tool S files
files_sound Graver S finished files sound h = (h.0, parts_selected S finished All h.0 sound h.1, h.2)
files_sound Hilbert S finished files sound h = (h.0, parts_selected S finished All h.0 sound h.1, h.2)
files_sound Zsolve S finished files sound h = (
  h.0,
  h.1,
  parts_selected S finished Hom h.0 sound
      h.2,
  parts_selected S finished Inhom h.1 sound h.3,
  h.4,
)

-- ---- what is wanted of the linear system is what the user's own system asks for
wanted_for_user : (U : UserSystem) (n : ℕ) (kind : core.SolutionKind) (rows : List (List ℤ))
    → IsWellFormed U → n ≡ length U.signs → HasKind U.has_x0 kind
    → IsWanted (linear_system U) n kind rows → IsWantedForUser U kind rows
wanted_for_user U n kind rows well e k h = (same_list (IsWrittenOf (linear_system U) n kind)
    (IsMinimalOfKind U kind) rows (λ x. written_for_user U well n kind x e k)).0 h

graver_for_user : (U : UserSystem) (n : ℕ) (rows : List (List ℤ)) → IsWellFormed U
    → n ≡ length U.signs → HasKind U.has_x0 Every → IsWantedGraver (linear_system U) n rows
    → IsWantedGraverForUser U rows
graver_for_user U n rows well e k h =
    (same_list (λ x. IsWrittenOf (linear_system U) n Every x × (IsWrittenOf (linear_system U) n
    Every (negated x) → IsTrue (leads_negative x) → ⊥))
    (λ x. IsMinimalOfKind U Every x × (IsMinimalOfKind U Every (negated x)
    → IsTrue (leads_negative x) → ⊥)) rows
    (λ x. same_pairs (IsWrittenOf (linear_system U) n Every) (IsMinimalOfKind U Every) x (negated
    x) (IsTrue (leads_negative x) → ⊥) (written_for_user U well n Every x e k) (written_for_user
    U well n Every (negated x) e k))).0
    h

module _ (tool : Tool) (input : Input) (formed : IsWellFormed (user_system tool input)) (as_many :
    input.mat.cols ≡ length (user_system tool input).signs) where
  pub user_files : (files : List OutputFile) → AreFilesOf tool (tool_system tool input) files → AreOutputsOf tool (user_system tool input) input.mat.cols files
  user_files = elim tool as (λ t. IsWellFormed (user_system t input)
      → input.mat.cols ≡ length (user_system t input).signs → (files : List OutputFile)
      → AreFilesOf t (tool_system t input) files
      → AreOutputsOf t (user_system t input) input.mat.cols files) [
        | Graver ↦ λ f n files h. (
          h.0,
          graver_for_user (user_system Graver input) input.mat.cols h.0 f
              n tt h.1,
          h.2,
        )
        | Hilbert ↦ λ f n files h. (
          h.0,
          wanted_for_user (user_system Hilbert input) input.mat.cols
              Every h.0 f n tt h.1,
          h.2,
        )
        | Zsolve ↦ λ f n files h. (
          h.0,
          h.1,
          wanted_for_user (user_system Zsolve input) input.mat.cols Homogeneous h.0 f n tt h.2,
          wanted_for_user (user_system Zsolve input) input.mat.cols Inhomogeneous h.1 f n tt h.3,
          h.4,
        )
      ] formed as_many

-- ---- the outputs of a plan
-- a start is of the system that it is for
pub start_system : (b : Bool) (S : ToolSystem) (stored : Stored) (s : Start)
    → Starts b S stored s → system_of s ≡ S
start_system false S stored s h = ap system_of h
start_system true S stored (Fresh T) h = absurd h
start_system true S stored (Resumed s First) h = h.0.system_is
start_system true S stored (Resumed s Second) h = h.0.system_is

module _ (tool : Tool) (job : Job) (input : Input) (stored : Stored) (shaped : IsShaped tool input
    (tool_system tool input)) where
  abbrev this_plan : Plan
  this_plan = record { job = job; tool = tool; input = input; stored = stored }

  exact_outputs : (T : ToolSystem) (finished : List (List ℤ)) (outputs : List OutputFile)
      → T ≡ tool_system tool input → AreAllSolutions T finished → AreSelectedOf T.tool T finished outputs
      → AreOutputsOf tool (user_system tool input) input.mat.cols outputs
  exact_outputs T finished outputs is all selected =
      user_files tool input shaped.formed shaped.columns outputs (subst (λ (U : ToolSystem).
      AreFilesOf U.tool U outputs) is (files_wanted T.tool T finished outputs refl all selected))

  sound_outputs : (T : ToolSystem) (finished : List (List ℤ)) (outputs : List OutputFile)
      → T ≡ tool_system tool input → AreSolutions T.equations finished
      → AreSelectedOf T.tool T finished outputs
      → AreSoundOf tool (tool_system tool input) outputs
  sound_outputs T finished outputs is sound selected = subst (λ (U : ToolSystem). AreSoundOf U.tool
      U outputs) is (files_sound T.tool T finished outputs sound selected)

  -- what is selected from the finish of a run is what its plan asks for
  pub wanted_from : (s : Start) (f : Finish) (outputs : List OutputFile)
      → f.system ≡ tool_system tool input → (IsDefinedStart s → HasAllSolutions f) → IsSoundFrom s f
      → AreSelectedOf f.system.tool f.system f.rows.rows outputs → AreOutputs this_plan s outputs
  wanted_from (Fresh S) f outputs is all sound selected = exact_outputs f.system f.rows.rows outputs
      is (all tt) selected
  wanted_from (Resumed s slot) f outputs is all sound selected = (
    λ d. exact_outputs f.system f.rows.rows outputs is (all d) selected,
    sound_outputs f.system
        f.rows.rows outputs is sound selected,
  )

  abbrev pub finish_of : (s : Start) (f : Finish) (outputs : List OutputFile)
      → StartsAs this_plan s → StartComesTo (limits_of job) s (run_finished f.rows.rows f.pairs)
      → IsOfSystem (system_of s) f
      → (IsDefinedStart s → HasAllSolutions f) → IsSoundFrom s f
      → AreSelectedOf f.system.tool f.system f.rows.rows outputs → Finishes this_plan f.pairs outputs
  finish_of s f outputs starts comes of all sound selected = record {
    start = s;
    starts = starts;
    rows = f.rows.rows;
    comes = comes;
    wanted = wanted_from s f outputs (of.system_is ∙ start_system (resumes job) (tool_system tool
        input) stored s starts) all sound selected;
  }
