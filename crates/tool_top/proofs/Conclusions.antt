-- What the ends of a command say: an answer that comes early, and the clauses of the top call.
use Rattle.std.proofs.Common.{◌≡◌, ◌≢◌, ◌⊎◌, inl, inr, ℕ, List, [], Bool, true, false, Option, None, Some, Result, Ok, Err, IfSome, IsOkAnd, IsErrAnd, refl, ap, sym, subst, ◌∙◌}
use Rattle.std.specs.Option.{option_map}
use Rattle.outside.specs.Files.{Files}
use Rattle.lift_core.specs.Systems.{ToolSystem}
use Rattle.lift_core.specs.declared.Tool.{Tool}
use Rattle.restart_file.specs.declared.ends.RestartFault.{RestartFault}
use Rattle.system_shape.specs.Shape.{tool_system}
use Rattle.system_shape.specs.declared.files.Input.{Input}
use Rattle.system_files.specs.declared.sources.Source.{Source}
use Rattle.system_files.specs.declared.sources.Source.TheVariants as source
use Rattle.system_files.specs.declared.faults.FileFault.TheVariants as file_fault
use Rattle.system_files.specs.declared.faults.InputFault.{InputFault}
use Rattle.system_files.specs.declared.faults.InputFault.TheVariants as input_fault
use Rattle.system_files.specs.declared.faults.InputStop.{InputStop}
use Rattle.system_files.specs.declared.faults.InputStop.TheVariants as stop
use Rattle.system_files.specs.declared.systems.Shaped.{Shaped}
use Rattle.system_files.specs.Inputs.{FindsBy, IsShaped}
use Rattle.tool_words.specs.Jobs.{job_of, ReadsJob}
use Rattle.tool_words.specs.declared.jobs.Job.{Job}
use Rattle.tool_words.specs.declared.jobs.WordEnd.{WordEnd}
use Rattle.tool_words.specs.declared.jobs.WordEnd.TheVariants.{Usage as NoForm, Memory as NoMemory}
use Rattle.backups.specs.declared.starts.Slot.{Slot}
use Rattle.backups.specs.declared.starts.Slot.TheVariants.{First, Second}
use Rattle.backups.specs.declared.starts.Start.{Start}
use Rattle.backups.specs.declared.starts.Start.TheVariants.{Fresh}
use Rattle.backups.specs.declared.starts.StartEnd.{StartEnd}
use Rattle.backups.specs.declared.starts.StartEnd.TheVariants as start
use Rattle.backups.specs.Starts.{Stored, stored_in, FindsStart}
use Rattle.std.specs.Prelude.{◌≤◌, ◌^◌, ◌&&◌, is_none, IsSome}
use Rattle.tool_top.specs.declared.ends.Part.{Part}
use Rattle.tool_top.specs.declared.ends.Part.TheVariants.{Mat, Ckp0, Ckp1, Out}
use Rattle.tool_top.specs.declared.ends.End.{End}
use Rattle.tool_top.specs.declared.ends.End.TheVariants.{Done, Usage, Missing, TooLong, Text, Refused, Shape, Outside, Memory}
use Rattle.tool_top.specs.declared.ends.Totals.{Totals}
use Rattle.tool_top.specs.Plan.{Plan, input_for, project_of, part_of, answer_of, plan_of, plan_for, resumes, interval_for, system_of_plan, stored_of}
use Rattle.tool_top.specs.Names.{file_name}
use Rattle.tool_top.specs.Outputs.{written_all}
use Rattle.tool_top.specs.Expected.{AreRefused, Starts, StartsAs, IsExpected, IsExpectedOr, OnDone}
use Rattle.tool_top.specs.Summary.{Tells}
use Rattle.tool_top.specs.Left.{Traces, HasWritten, IsUntouched, LeavesCut, Leaves}
use Rattle.tool_top.specs.Inside.Ends.{Asks, FindsStartOf, end_of_words, end_of_stop, end_of_start, end_of, Ends}

-- the traces of a run over a folder that tells its files
abbrev pub traces : Files → Option Files → Option (List ℕ) → Option (List ℕ) → Traces
traces files new told tells =
    record { files_before = files; files_after = new; out_before = told; out_after = tells }

-- the plan's end and what it leaves, where the folder tells its files
abbrev pub EndsOver : Result Plan End → Option Files → Option Files → Option (List ℕ)
    → Option (List ℕ) → End → Type 0
EndsOver plan held new told tells e = IfSome held (λ files. Ends plan (traces files new told tells) e)

pub untouched : (files : Files) (new : Option Files) (told : Option (List ℕ)) → new ≡ Some files
    → IsUntouched (traces files new told told)
untouched files new told same = record { files = same; out = refl }

-- what holds of each folder that tells its files and is as before
pub over_same : (plan : Result Plan End) (held new : Option Files) (told : Option (List ℕ)) (e :
    End) → new ≡ held
    → ((t : Traces) → IsUntouched t → Ends plan t e) → EndsOver plan held new told told e
over_same plan None new told e same ends = tt
over_same plan (Some files) new told e same ends = ends (traces files new told told) (untouched
    files new told same)

-- what holds of the end that a refused step gives holds of the end of the run
pub at_error : (P : End → Type 0) (r : Result Totals End) (e : End) → IsErrAnd r (λ y. y ≡ e)
    → P e → P (end_of r)
at_error P (Ok totals) e is h = absurd is
at_error P (Err y) e is h = subst P (sym is) h

-- ---- an answer that comes before the run
pub memory_ends : (plan : Result Plan End) (t : Traces) → IsUntouched t → Ends plan t Memory
memory_ends plan t u = record { comes = tt; leaves = (Mat, u) }

answer_expected : (plan : Result Plan End) (e : End) → plan ≡ Err e → IsExpected plan e
answer_expected plan e is = subst (λ r. IsExpected r e) (sym is) refl

fault_ends : (plan : Result Plan End) (fault : InputFault) → plan ≡ Err (answer_of fault)
    → (t : Traces) → IsUntouched t → Ends plan t (answer_of fault)
fault_ends plan (input_fault.File at file_fault.Missing) is t u = record {
  comes = answer_expected
      plan (Missing (part_of at)) is;
  leaves = u;
}
fault_ends plan (input_fault.File at (file_fault.TooLong len)) is t u = record {
  comes =
      answer_expected plan (TooLong (part_of at)) is;
  leaves = u;
}
fault_ends plan (input_fault.File at (file_fault.Text fault)) is t u = record {
  comes =
      answer_expected plan (Text (part_of at) fault) is;
  leaves = u;
}
fault_ends plan (input_fault.Refused at) is t u = record {
  comes = answer_expected plan (Refused
      (part_of at)) is;
  leaves = u;
}
fault_ends plan (input_fault.Shape fault) is t u = record {
  comes = answer_expected plan (Shape
      fault) is;
  leaves = u;
}

source_leaves : (plan : Result Plan End) (t : Traces) (at : Source) → IsUntouched t
    → LeavesCut plan t (part_of at)
source_leaves plan t source.Mat u = u
source_leaves plan t source.Sign u = u
source_leaves plan t source.Rel u = u
source_leaves plan t source.Rhs u = u
source_leaves plan t source.Cap u = u
source_leaves plan t source.Lat u = u
source_leaves plan t source.Lb u = u
source_leaves plan t source.Ub u = u

-- both restart files are refused
refused_both : (plan : Plan) (f g : RestartFault) (b : Bool) → resumes plan.job ≡ b
    → FindsStartOf b (system_of_plan plan) plan.stored (Err (start.Refused f g)) → AreRefused plan f g
refused_both plan f g true is h = record { resumed = is; first_fault = h.0; second_fault = h.1 }
refused_both plan f g false is h = absurd (cc)

-- a restart file is read where a run is to be resumed
failed_resumed : (plan : Plan) (slot : Slot) (b : Bool) → resumes plan.job ≡ b
    → FindsStartOf b (system_of_plan plan) plan.stored (Err (start.Failed slot))
    → resumes plan.job ≡ true
failed_resumed plan slot true is h = is
failed_resumed plan slot false is h = absurd (cc)

-- the start that was found
abbrev start_or : Start → Result Start StartEnd → Start
start_or other (Ok s) = s
start_or other (Err e) = other

-- ---- what an end without a start says
at_start : (e : StartEnd) (A : Type 0) (p : Part) → ((slot : Slot) → e ≡ start.Failed slot → A)
    → end_of_start e ≡ Outside p → A
at_start (start.Refused f g) A p failed is = absurd (cc)
at_start (start.Failed slot) A p failed is = failed slot refl
at_start start.Memory A p failed is = absurd (cc)

pub start_fault : (r : Result Totals End) (e : StartEnd) (A : Type 0) (p : Part)
    → IsErrAnd r (λ y. y ≡ end_of_start e) → ((slot : Slot) → e ≡ start.Failed slot → A)
    → end_of r ≡ Outside p → A
start_fault (Ok totals) e A p err failed is = absurd err
start_fault (Err y) e A p err failed is = at_start e A p failed (sym err ∙ is)

out_at_start : (e : StartEnd) → end_of_start e ≡ Outside Out → ⊥
out_at_start (start.Refused f g) is = absurd (cc)
out_at_start (start.Failed First) is = absurd (cc)
out_at_start (start.Failed Second) is = absurd (cc)
out_at_start start.Memory is = absurd (cc)

pub start_not_out : (r : Result Totals End) (e : StartEnd) → IsErrAnd r (λ y. y ≡ end_of_start e)
    → end_of r ≡ Outside Out → ⊥
start_not_out (Ok totals) e err is = absurd err
start_not_out (Err y) e err is = out_at_start e (sym err ∙ is)

usage_at_start : (e : StartEnd) → end_of_start e ≡ Usage → ⊥
usage_at_start (start.Refused f g) is = absurd (cc)
usage_at_start (start.Failed slot) is = absurd (cc)
usage_at_start start.Memory is = absurd (cc)

pub start_not_usage : (r : Result Totals End) (e : StartEnd)
    → IsErrAnd r (λ y. y ≡ end_of_start e) → end_of r ≡ Usage → ⊥
start_not_usage (Ok totals) e err is = absurd err
start_not_usage (Err y) e err is = usage_at_start e (sym err ∙ is)

tells_at_start : (job : Option Job) (told : Option (List ℕ)) (e : StartEnd)
    → Tells job told told (end_of_start e)
tells_at_start job told (start.Refused f g) = refl
tells_at_start job told (start.Failed slot) = inl refl
tells_at_start job told start.Memory = inl refl

pub tells-start : (job : Option Job) (told : Option (List ℕ)) (r : Result Totals End) (e : StartEnd)
    → IsErrAnd r (λ y. y ≡ end_of_start e) → Tells job told told (end_of r)
tells-start job told r e err = at_error (Tells job told told) r (end_of_start e) err (tells_at_start
    job told e)

-- ---- finding the start
pub found-resumed : (b : Bool) (project : List ℕ) (S : ToolSystem) (held : Option Files) (result :
    Result Start StartEnd) (first second : List ℕ) → b ≡ true
    → first ≡ file_name project Ckp0 → second ≡ file_name project Ckp1
    → IfSome held (λ files. FindsStart S (stored_in first second files) result)
    → IfSome held (λ files. FindsStartOf b S (stored_of project files) result)
found-resumed b project S None result first second is a c h = tt
found-resumed b project S (Some files) result first second is a c h =
    subst (λ x. FindsStartOf x S (stored_of project files) result) (sym is)
    (subst (λ x. FindsStart S (stored_in x (file_name project Ckp1) files) result) a (subst (λ x.
    FindsStart S (stored_in first x files) result) c h))

pub found-fresh : (b : Bool) (project : List ℕ) (S : ToolSystem) (held : Option Files)
    → b ≡ false → IfSome held (λ files. FindsStartOf b S (stored_of project files) (Ok (Fresh S)))
found-fresh b project S None is = tt
found-fresh b project S (Some files) is = subst (λ x. FindsStartOf x S (stored_of project files) (Ok
    (Fresh S))) (sym is) refl

-- with tables nothing is resumed, and no backup is written
not_resumed : (tables : Option ℕ) (resume : Bool) → (is_none tables && resume) ≡ true → IsSome tables → ⊥
not_resumed None resume is some = let e : false ≡ true = some in cc
not_resumed (Some k) resume is some = absurd (cc)

pub apart-resumed : (job : Job) → resumes job ≡ true → IsSome job.tables → ⊥
apart-resumed job is some = not_resumed job.tables job.resume is some

pub no_interval : (tables backup : Option ℕ) → IsSome tables → interval_for tables backup ≡ None
no_interval None backup some = absurd (let e : false ≡ true = some in cc)
no_interval (Some k) backup some = refl

pub at_least_one : (backup : Option ℕ) → IfSome backup (λ n. (1 ≤ n) × (n ≤ 2 ^ 20))
    → IfSome backup (λ n. 1 ≤ n)
at_least_one None h = tt
at_least_one (Some n) h = h.0

-- reading the files of a job came to this
module _ (tool : Tool) (job : Job) where
  plan_fails : (files : Files) (fault : InputFault)
      → input_for tool job.tables (project_of job) files ≡ Err fault
      → plan_of tool job files ≡ Err (answer_of fault)
  plan_fails files fault found = rw found refl

  -- the plan of an input
  abbrev pub with_input : Input → Files → Plan
  with_input input files = record {
    job = job;
    tool = tool;
    input = input;
    stored = stored_of
        (project_of job) files;
  }

  plan_is : (files : Files) (input : Input)
      → input_for tool job.tables (project_of job) files ≡ Ok input
      → plan_of tool job files ≡ Ok (with_input input files)
  plan_is files input found = rw found refl

  stop_ends : (files : Files) (e : InputStop)
      → FindsBy (λ (s : Shaped). s.input) (Err e) (input_for tool job.tables (project_of job) files)
      → (t : Traces) → IsUntouched t → Ends (plan_of tool job files) t (end_of_stop e)
  stop_ends files (stop.Bad fault) f t u = fault_ends (plan_of tool job files) fault (plan_fails
      files fault f) t u
  stop_ends files (stop.Failed at) f t u = record {
    comes = tt;
    leaves = source_leaves (plan_of tool
        job files) t at u;
  }
  stop_ends files stop.Memory f t u = memory_ends (plan_of tool job files) t u

  pub ends-early : (held new : Option Files) (told : Option (List ℕ)) (e : InputStop) (r : Result
      Totals End) → new ≡ held
      → IfSome held (λ files. FindsBy (λ (s : Shaped). s.input) (Err e) (input_for tool job.tables
      (project_of job) files))
      → IsErrAnd r (λ y. y ≡ end_of_stop e) → IfSome held (λ files. Ends (plan_of tool job files)
      (traces files new told told) (end_of r))
  ends-early None new told e r same f err = tt
  ends-early (Some files) new told e r same f err =
      at_error (Ends (plan_of tool job files) (traces files new told told)) r (end_of_stop e) err
      (stop_ends files e f (traces files new told told) (untouched files new told same))

  -- ---- no start was found
  start_ends : (plan : Plan) (e : StartEnd)
      → FindsStartOf (resumes plan.job) (system_of_plan plan) plan.stored (Err e) → (t : Traces)
      → IsUntouched t → Ends (Ok plan) t (end_of_start e)
  start_ends plan (start.Refused f g) h t u = record {
    comes = refused_both plan f g (resumes
        plan.job) refl h;
    leaves = u;
  }
  start_ends plan (start.Failed First) h t u = record {
    comes = tt;
    leaves = inl (failed_resumed plan First (resumes plan.job) refl h, u);
  }
  start_ends plan (start.Failed Second) h t u = record {
    comes = tt;
    leaves = inl (failed_resumed plan Second (resumes plan.job) refl h, u);
  }
  start_ends plan start.Memory h t u = memory_ends (Ok plan) t u

  -- the folder is as before, and these are the plan's files
  pub ends-start : (input : Input) (held mid new : Option Files) (told : Option (List ℕ)) (S :
      ToolSystem) (e : StartEnd) (r : Result Totals End) → mid ≡ held → new ≡ mid
      → IfSome held (λ files. input_for tool job.tables (project_of job) files ≡ Ok input)
      → S ≡ tool_system tool input
      → IfSome mid (λ files. FindsStartOf (resumes job) S (stored_of (project_of job) files) (Err
      e)) → IsErrAnd r (λ y. y ≡ end_of_start e)
      → IfSome held (λ files. Ends (plan_of tool job files) (traces files new told told) (end_of r))
  ends-start input None mid new told S e r same same' found is h err = tt
  ends-start input (Some files) mid new told S e r same same' found is h err =
      let f : FindsStartOf (resumes job) S (stored_of (project_of job) files) (Err e) =
      (let k : IfSome (Some files) (λ files. FindsStartOf (resumes job) S (stored_of (project_of
      job) files) (Err e)) =
      subst (λ m. IfSome m (λ files. FindsStartOf (resumes job) S (stored_of (project_of job) files)
      (Err e))) same h in k) in
      let g : FindsStartOf (resumes job) (tool_system tool input) (stored_of (project_of job) files)
      (Err e) = subst (λ T. FindsStartOf (resumes job) T (stored_of (project_of job) files) (Err
      e)) is f in
      subst (λ p. Ends p (traces files new told told) (end_of r)) (sym (plan_is files input found))
      (at_error (Ends (Ok (with_input input files)) (traces files new told told)) r (end_of_start e) err
      (start_ends (with_input input files) e g (traces files new told told) (untouched files new
      told (same' ∙ same))))

  -- out of memory for the names of the restart files
  pub ends-names : (held new : Option Files) (told : Option (List ℕ)) (r : Result Totals End)
      → new ≡ held → IsErrAnd r (λ y. y ≡ Memory)
      → IfSome held (λ files. Ends (plan_of tool job files) (traces files new told told) (end_of r))
  ends-names None new told r same err = tt
  ends-names (Some files) new told r same err =
      at_error (Ends (plan_of tool job files) (traces files new told told)) r Memory err
      (memory_ends (plan_of tool job files) (traces files new told told) (untouched files new told same))

  -- a start that was found is the plan's
  found_start : (b : Bool) (S : ToolSystem) (stored : Stored) (s : Start)
      → FindsStartOf b S stored (Ok s) → Starts b S stored s
  found_start true S stored s h = h
  found_start false S stored s h = ap (start_or s) h

  -- a run that is carried out ends as its plan says
  pub ends-carried : (input : Input) (held mid last new : Option Files) (told tells : Option (List
      ℕ)) (S : ToolSystem) (s : Start) (e : End) → mid ≡ held → last ≡ mid
      → IfSome held (λ files. input_for tool job.tables (project_of job) files ≡ Ok input)
      → IsShaped tool input S
      → IfSome mid (λ files. FindsStartOf (resumes job) S (stored_of (project_of job) files) (Ok s))
      → ((stored : Stored) → IsShaped tool input (tool_system tool input)
      → StartsAs (record { job = job; tool = tool; input = input; stored = stored }) s
      → EndsOver (Ok (record { job = job; tool = tool; input = input; stored = stored })) last new
      told tells e)
      → IfSome held (λ files. Ends (plan_of tool job files) (traces files new told tells) e)
  ends-carried input None mid last new told tells S s e same same' found shaped h ends = tt
  ends-carried input (Some files) mid last new told tells S s e same same' found shaped h ends =
      let k : IfSome (Some files) (λ files. FindsStartOf (resumes job) S (stored_of (project_of job)
      files) (Ok s)) =
      subst (λ m. IfSome m (λ files. FindsStartOf (resumes job) S (stored_of (project_of job) files)
      (Ok s))) same h in
      let f : Starts (resumes job) S (stored_of (project_of job) files) s = found_start (resumes
      job) S (stored_of (project_of job) files) s k in
      let g : StartsAs (with_input input files) s = subst (λ T. Starts (resumes job) T (stored_of
      (project_of job) files) s) shaped.is f in
      let w : IsShaped tool input (tool_system tool input) = subst (λ T. IsShaped tool input T)
      shaped.is shaped in
      let over : EndsOver (Ok (with_input input files)) (Some files) new told tells e =
      subst (λ m. EndsOver (Ok (with_input input files)) m new told tells e) (same' ∙ same) (ends
      (stored_of (project_of job) files) w g) in
      subst (λ p. Ends p (traces files new told tells) e) (sym (plan_is files input found)) over

-- words that are refused
words_ends : (tool : Tool) (e : WordEnd) (asked : Option Job) → Asks asked (Err e)
    → (files : Files) (t : Traces) → IsUntouched t
    → Ends (plan_for tool asked files) t (end_of_words e)
words_ends tool NoForm asked is files t u =
    record {
      comes = answer_expected (plan_for tool asked files) Usage (ap (λ a. plan_for tool a
          files) is);
      leaves = u;
    }
words_ends tool NoMemory asked is files t u = memory_ends (plan_for tool asked files) t u

pub ends-words : (tool : Tool) (e : WordEnd) (asked : Option Job) (held : Option Files) (told :
    Option (List ℕ)) (end : End) → Asks asked (Err e) → end ≡ end_of_words e
    → IfSome held (λ files. Ends (plan_for tool asked files) (traces files held told told) end)
ends-words tool e asked None told end is same = tt
ends-words tool e asked (Some files) told end is same =
    subst (Ends (plan_for tool asked files) (traces files (Some files) told told)) (sym same)
    (words_ends tool e asked is files (traces files (Some files) told told) (untouched files (Some
    files) told refl))

pub tells-words : (e : WordEnd) (asked : Option Job) (told : Option (List ℕ)) (end : End)
    → end ≡ end_of_words e → Tells asked told told end
tells-words NoForm asked told end same = subst (Tells asked told told) (sym same) refl
tells-words NoMemory asked told end same = subst (Tells asked told told) (sym same) (inl refl)

-- a job that was read
pub ends-asked : (tool : Tool) (job : Job) (asked : Option Job) (held new : Option Files) (told
    tells : Option (List ℕ)) (e : End) → asked ≡ Some job
    → IfSome held (λ files. Ends (plan_of tool job files) (traces files new told tells) e)
    → IfSome held (λ files. Ends (plan_for tool asked files) (traces files new told tells) e)
ends-asked tool job asked held new told tells e is ends =
    subst (λ a. IfSome held (λ files. Ends (plan_for tool a files) (traces files new told tells) e))
    (sym is) ends

-- ---- the clauses of the top call
written : (plan : Result Plan End) (t : Traces) (e : End) → Leaves plan t e
    → OnDone e (IsOkAnd plan (λ p. HasWritten p t.files_before t.files_after))
written (Ok p) t (Done s u n) h = h.written
written (Err answer) t (Done s u n) h = absurd h
written plan t e h = tt

expected : (plan : Result Plan End) (e : End) → IsExpectedOr plan e → ((part : Part)
    → e ≡ Outside part → ⊥) → IsExpected plan e ⊎ (e ≡ Memory)
expected plan (Outside part) h calm = absurd (calm part refl)
expected plan Memory h calm = inr refl
expected plan e h calm = inl h

-- a part is standard output, or it is not
out_or_not : (part : Part) → (part ≡ Out) ⊎ (part ≢ Out)
out_or_not Out = inl refl
out_or_not part = inr (λ e. cc)

no_fault : (A B : Type 0) (e : End) → ((p : Part) → e ≡ Outside p → p ≢ Out → A)
    → (e ≡ Outside Out → B) → (A → ⊥) → (B → ⊥)
    → (part : Part) → e ≡ Outside part → ⊥
no_fault A B e folder out a b part is = elim (out_or_not part) [
  | inl same ↦ b (out (subst (λ q. e ≡ Outside q) same is))
  | inr other ↦ a (folder part is other)
]

module _ (held new : Option Files) (plan : Files
    → Result Plan End) (told tells : Option (List ℕ)) (e : End) where
  pub all-written : IfSome held (λ files. Ends (plan files) (traces files new told tells) e)
      → IfSome held (λ files. OnDone e (IsOkAnd (plan files) (λ p. HasWritten p files new)))
  all-written = elim held as (λ held. IfSome held (λ files. Ends (plan files) (traces files new told
      tells) e) → IfSome held (λ files. OnDone e (IsOkAnd (plan files) (λ p. HasWritten p files new)))) [
        | None ↦ λ h. tt
        | Some files ↦ λ h. written (plan files) (traces files new told tells) e h.leaves
      ]

  pub all-expected : IfSome held (λ files. Ends (plan files) (traces files new told tells) e)
      → IfSome held (λ files. IsExpectedOr (plan files) e)
  all-expected = elim held as (λ held. IfSome held (λ files. Ends (plan files) (traces files new
      told tells) e) → IfSome held (λ files. IsExpectedOr (plan files) e)) [
        | None ↦ λ h. tt
        | Some files ↦ λ h. h.comes
      ]

  pub all-left : IfSome held (λ files. Ends (plan files) (traces files new told tells) e)
      → IfSome held (λ files. Leaves (plan files) (traces files new told tells) e)
  all-left = elim held as (λ held. IfSome held (λ files. Ends (plan files) (traces files new told
      tells) e) → IfSome held (λ files. Leaves (plan files) (traces files new told tells) e)) [
        | None ↦ λ h. tt
        | Some files ↦ λ h. h.leaves
      ]

  pub headline : (A B : Type 0) → IfSome held (λ files. Ends (plan files) (traces files new told
      tells) e) → ((p : Part) → e ≡ Outside p → p ≢ Out → A)
      → (e ≡ Outside Out → B) → IfSome held (λ files. (A → ⊥) → (B → ⊥)
      → IsExpected (plan files) e ⊎ (e ≡ Memory))
  headline A B = elim held as (λ held. IfSome held (λ files. Ends (plan files) (traces files new
      told tells) e) → ((p : Part) → e ≡ Outside p → p ≢ Out → A)
      → (e ≡ Outside Out → B) → IfSome held (λ files. (A → ⊥) → (B → ⊥)
      → IsExpected (plan files) e ⊎ (e ≡ Memory))) [
        | None ↦ λ ends folder out. tt
        | Some files ↦ λ ends folder out a b. expected (plan files) e ends.comes (no_fault A B e
            folder out a b)
      ]

-- writing no file
pub unwritten : (project : List ℕ) (held : Option Files) → held ≡ option_map (written_all project []) held
unwritten project None = refl
unwritten project (Some files) = refl

-- the job that was read is the one that the words ask for
pub asks_of : (tool : Tool) (words : List (List ℕ)) (r : Result Job WordEnd) → ReadsJob tool words r
    → Asks (job_of tool words) r
asks_of tool words (Ok job) h = h
asks_of tool words (Err NoForm) h = h
asks_of tool words (Err NoMemory) h = tt
