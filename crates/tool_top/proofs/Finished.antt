-- What the ends of a run say: it was stopped or broke off, the writing of its outputs was cut, or
-- all is written.
use Rattle.std.proofs.Common.{◌≡◌, inl, inr, ℕ, List, [], ◌∷◌, Option, None, Some, Result, Ok, Err, IfSome, IsErrAnd, refl, ap, sym, subst, ◌∙◌}
use Rattle.std.specs.Prelude.{ℤ, slice_index_or}
use Rattle.std.specs.Option.{option_map, ok_or}
use Rattle.outside.specs.Files.{Files}
use Rattle.lift_core.specs.Systems.{ToolSystem}
use Rattle.lift_core.specs.Ends.{Limits, finished}
use Rattle.lift_core.specs.Ends.{End as LiftEnd}
use Rattle.lift_core.specs.declared.Tool.{Tool}
use Rattle.lift_core.specs.declared.Tool.TheVariants.{Graver, Hilbert, Zsolve}
use Rattle.stage_store.specs.Stage.{StageValue}
use Rattle.stage_store.specs.declared.stage.Finish.{Finish}
use Rattle.stage_store.specs.declared.stage.Lifted.{Lifted}
use Rattle.stage_store.specs.declared.stage.Lifted.TheVariants.{Next, Last}
use Rattle.lift_run.specs.declared.ends.Place.TheVariants.{Row, Norm}
use Rattle.lift_run.specs.declared.ends.RunEnd.{RunEnd}
use Rattle.lift_run.specs.declared.ends.RunEnd.TheVariants.{Overflow as RunOverflow, Pairs as RunPairs, Rows as RunRows, Failed as RunFailed, Memory as RunMemory}
use Rattle.lift_run.specs.Runs.{end_of_error}
use Rattle.system_shape.specs.declared.files.Input.{Input}
use Rattle.tool_words.specs.declared.jobs.Job.{Job}
use Rattle.backups.specs.declared.running.Stopped.{Stopped}
use Rattle.backups.specs.declared.starts.Slot.{Slot}
use Rattle.backups.specs.declared.starts.Slot.TheVariants.{First, Second}
use Rattle.backups.specs.declared.starts.Start.{Start}
use Rattle.backups.specs.Starts.{Stored, StartComesTo, first_slot, slot_name, names_from}
use Rattle.backups.specs.Standing.{Turns, turns_from, backed, backed_up_of, names_after, LeavesFrom, LeavesRun, came_to}
use Rattle.tool_top.specs.declared.ends.Part.{Part}
use Rattle.tool_top.specs.declared.ends.Part.TheVariants.{Ckp0, Ckp1, Gra, Hil, Zhom, Zinhom, Out}
use Rattle.tool_top.specs.declared.ends.End.{End}
use Rattle.tool_top.specs.declared.ends.End.TheVariants.{Usage, Outside, Memory}
use Rattle.tool_top.specs.declared.ends.Totals.{Totals}
use Rattle.tool_top.specs.Names.{file_name}
use Rattle.tool_top.specs.Plan.{Plan, project_of, interval_for, part_of_slot}
use Rattle.tool_top.specs.Outputs.{OutputFile, file_of, to_write, written_all, total_rows, norms_in}
use Rattle.tool_top.specs.Expected.{limits_of, StartsAs, Finishes}
use Rattle.tool_top.specs.Summary.{Tells}
use Rattle.tool_top.specs.Left.{Traces, BacksUp, IsCutAt, IsCutInFile, LeavesCut, turns_for}
use Rattle.tool_top.specs.Inside.Ends.{end_of_run, end_of_stopped, came_for, end_of, Ends}
use Rattle.tool_top.specs.Inside.Writing.{AreSelectedOf, CutsTo, TellsOf}
use Rattle.tool_top.proofs.Conclusions.{traces, EndsOver, at_error}

-- ---- the files that a run leaves
-- a run that came to an end did not break off
came_not : {A : Type 0} {name : A} (end : LiftEnd) → Ok end ≡ Err name → ⊥
came_not end is = cc

none_backed : (turns : Turns) (files : Files) → backed turns [] files ≡ files
none_backed turns files = none_of turns.interval turns.names files
  where
    none_of : (interval : Option ℕ) (names : List (List ℕ)) (files : Files)
        → backed (record { interval = interval; names = names }) [] files ≡ files
    none_of None names files = refl
    none_of (Some n) names files = refl

-- the backup that follows these goes to the file of some slot
next_slot : (slot : Slot) (first second : List ℕ) (stages : List StageValue)
    → (next : Slot) × (slot_name next first second ≡ slice_index_or (names_after (names_from slot
    first second) stages) 0 [])
next_slot slot first second [] = (slot, refl)
next_slot First first second (stage ∷ stages) = next_slot Second first second stages
next_slot Second first second (stage ∷ stages) = next_slot First first second stages

-- a run that came to its end has left what one leaves that breaks off behind its last backup
module _ (slot : Slot) (interval : Option ℕ) (first second : List ℕ) (limits : Limits) where
  abbrev its_turns : Turns
  its_turns = turns_from slot interval first second

  left_first : (from : Lifted) (end : LiftEnd) (before : Files) (after : Option Files)
      → LeavesFrom its_turns limits from (Ok end) before after
      → (next : Slot) × LeavesFrom its_turns limits from (Err (slot_name next first second)) before after
  left_first (Next s) end before after h =
      let n : (next : Slot) × (slot_name next first second ≡ slice_index_or (names_after (names_from
      slot first second) (backed_up_of interval h.closed)) 0 []) = next_slot slot first second
      (backed_up_of interval h.closed) in
      (n.0, (h.closed, h.closes.0, h.closes.1, n.1, inl h.files))
  left_first (Last f) end before after h =
      let n : (next : Slot) × (slot_name next first second ≡ slice_index_or (names_after (names_from
      slot first second) (backed_up_of interval [])) 0 []) = next_slot slot first second
      (backed_up_of interval []) in
      let same : after ≡ Some before = h.files ∙ ap (λ (l : List StageValue). Some (backed its_turns l
      before)) h.closes ∙ ap (λ (x : Files). Some x) (none_backed its_turns before) in
      (n.0, (n.1, same))

  pub broken_off : (start : Start) (end : LiftEnd) (before : Files) (after : Option Files)
      → LeavesRun its_turns limits start (Ok end) before after
      → (next : Slot) × LeavesRun its_turns limits start (Err (slot_name next first second)) before after
  broken_off start end before after (inl h) =
      let l : (next : Slot) × LeavesFrom its_turns limits h.0 (Err (slot_name next first second))
      before after = left_first h.0 end before after h.2 in
      (l.0, inl (h.0, h.1, l.1))
  broken_off start end before after (inr h) = absurd (came_not end h.0)

-- the files stand, where an end is named
stand_from : (turns : Turns) (limits : Limits) (from : Lifted) (end : LiftEnd) (before : Files)
    (after : Option Files) → LeavesFrom turns limits from (Ok end) before after
    → (files : Files) × (after ≡ Some files)
stand_from turns limits from end before after h = (backed turns h.closed before, h.files)

pub stand : (turns : Turns) (limits : Limits) (start : Start) (end : LiftEnd) (before : Files)
    (after : Option Files) → LeavesRun turns limits start (Ok end) before after
    → (files : Files) × (after ≡ Some files)
stand turns limits start end before after (inl h) = stand_from turns limits h.0 end before after h.2
stand turns limits start end before after (inr h) = absurd (came_not end h.0)

-- the names and the interval of a job's run are those of the job
pub leaves-job : (job : Job) (s : Start) (interval : Option ℕ) (first second : List ℕ) (r : Result
    Finish Stopped) (held new : Option Files) → interval ≡ interval_for job.tables job.backup
    → first ≡ file_name (project_of job) Ckp0 → second ≡ file_name (project_of job) Ckp1
    → IfSome held (λ files. LeavesRun (turns_from (first_slot s) interval first second) (limits_of
    job) s (came_to first second r) files new)
    → IfSome held (λ files. LeavesRun (turns_for job s) (limits_of job) s (came_for job r) files new)
leaves-job job s interval first second r held new i a b h =
    subst (λ x. IfSome held (λ files. LeavesRun (turns_from (first_slot s) x (file_name (project_of
    job) Ckp0) (file_name (project_of job) Ckp1)) (limits_of job) s (came_for job r) files new)) i
    (subst (λ x. IfSome held (λ files. LeavesRun (turns_from (first_slot s) interval x (file_name
    (project_of job) Ckp1)) (limits_of job) s (came_to x (file_name (project_of job) Ckp1) r) files
    new)) a
    (subst (λ x. IfSome held (λ files. LeavesRun (turns_from (first_slot s) interval first x)
    (limits_of job) s (came_to first x r) files new)) b h))

-- ---- a run that did not finish
-- it fails at a restart file alone
slot_part : (P : Part → Type 0) (slot : Slot) → P Ckp0 → P Ckp1 → P (part_of_slot slot)
slot_part P First a b = a
slot_part P Second a b = b

fault_at : (next : Slot) (e : RunEnd) (A : Type 0) (p : Part) → (e ≡ RunFailed → A)
    → end_of_run next e ≡ Outside p → A
fault_at next (RunOverflow k place) A p failed is = absurd (cc)
fault_at next (RunPairs k d n) A p failed is = absurd (cc)
fault_at next (RunRows k d n) A p failed is = absurd (cc)
fault_at next RunFailed A p failed is = failed refl
fault_at next RunMemory A p failed is = absurd (cc)

-- a failure of the run rests on the folder's count
pub run_fault : (r : Result Totals End) (s : Stopped) (A : Type 0) (p : Part)
    → IsErrAnd r (λ y. y ≡ end_of_stopped s) → (s.end ≡ RunFailed → A) → end_of r ≡ Outside p → A
run_fault (Ok totals) s A p err failed is = absurd err
run_fault (Err y) s A p err failed is = fault_at s.next s.end A p failed (sym err ∙ is)

out_at : (next : Slot) (e : RunEnd) → end_of_run next e ≡ Outside Out → ⊥
out_at next (RunOverflow k place) is = absurd (cc)
out_at next (RunPairs k d n) is = absurd (cc)
out_at next (RunRows k d n) is = absurd (cc)
out_at First RunFailed is = absurd (cc)
out_at Second RunFailed is = absurd (cc)
out_at next RunMemory is = absurd (cc)

pub run_not_out : (r : Result Totals End) (s : Stopped) → IsErrAnd r (λ y. y ≡ end_of_stopped s)
    → end_of r ≡ Outside Out → ⊥
run_not_out (Ok totals) s err is = absurd err
run_not_out (Err y) s err is = out_at s.next s.end (sym err ∙ is)

usage_at : (next : Slot) (e : RunEnd) → end_of_run next e ≡ Usage → ⊥
usage_at next (RunOverflow k place) is = absurd (cc)
usage_at next (RunPairs k d n) is = absurd (cc)
usage_at next (RunRows k d n) is = absurd (cc)
usage_at next RunFailed is = absurd (cc)
usage_at next RunMemory is = absurd (cc)

pub run_not_usage : (r : Result Totals End) (s : Stopped)
    → IsErrAnd r (λ y. y ≡ end_of_stopped s) → end_of r ≡ Usage → ⊥
run_not_usage (Ok totals) s err is = absurd err
run_not_usage (Err y) s err is = usage_at s.next s.end (sym err ∙ is)

tells_at : (job : Option Job) (told : Option (List ℕ)) (next : Slot) (e : RunEnd)
    → Tells job told told (end_of_run next e)
tells_at job told next (RunOverflow k place) = refl
tells_at job told next (RunPairs k d n) = refl
tells_at job told next (RunRows k d n) = refl
tells_at job told next RunFailed = inl refl
tells_at job told next RunMemory = inl refl

pub tells-run : (job : Option Job) (told : Option (List ℕ)) (r : Result Totals End) (s : Stopped)
    → IsErrAnd r (λ y. y ≡ end_of_stopped s) → Tells job told told (end_of r)
tells-run job told r s err = at_error (Tells job told told) r (end_of_stopped s) err (tells_at job
    told s.next s.end)

module _ (tool : Tool) (job : Job) (input : Input) (stored : Stored) where
  abbrev the_plan : Plan
  the_plan = record { job = job; tool = tool; input = input; stored = stored }

  module _ (s : Start) (starts : StartsAs the_plan s) where
    -- the name of a slot's file
    abbrev named : Slot → List ℕ
    named slot = slot_name slot (file_name (project_of job) Ckp0) (file_name (project_of job) Ckp1)

    broke : (slot : Slot) (t : Traces)
        → BacksUp the_plan s (Err (named slot)) t.files_before t.files_after
        → t.out_after ≡ t.out_before → LeavesCut (Ok the_plan) t (part_of_slot slot)
    broke First t files out = inr (record { start = s; starts = starts; files = files; out = out })
    broke Second t files out = inr (record { start = s; starts = starts; files = files; out = out })

    run_ends : (next : Slot) (e : RunEnd) → IfSome (end_of_error e) (StartComesTo (limits_of job) s)
        → (t : Traces)
        → BacksUp the_plan s (ok_or (end_of_error e) (named next)) t.files_before t.files_after
        → t.out_after ≡ t.out_before → Ends (Ok the_plan) t (end_of_run next e)
    run_ends next (RunOverflow k (Row v)) c t files out = record {
      comes = (s, starts, c);
      leaves =
          record { start = s; starts = starts; comes = c; files = files; out = out };
    }
    run_ends next (RunOverflow k (Norm d)) c t files out = record {
      comes = (s, starts, c);
      leaves =
          record { start = s; starts = starts; comes = c; files = files; out = out };
    }
    run_ends next (RunPairs k d n) c t files out = record {
      comes = (s, starts, c);
      leaves = record
          { start = s; starts = starts; comes = c; files = files; out = out };
    }
    run_ends next (RunRows k d n) c t files out = record {
      comes = (s, starts, c);
      leaves = record {
        start = s;
        starts = starts;
        comes = c;
        files = files;
        out = out;
      };
    }
    run_ends next RunFailed c t files out = record { comes = tt; leaves = broke next t files out }
    run_ends next RunMemory c t files out = record {
      comes = tt;
      leaves = (part_of_slot next, broke next t files out);
    }

    run_over : (held new : Option Files) (told : Option (List ℕ)) (e : Stopped)
        → IfSome (end_of_error e.end) (StartComesTo (limits_of job) s)
        → IfSome held (λ files. LeavesRun (turns_for job s) (limits_of job) s (came_for job (Err e))
        files new) → EndsOver (Ok the_plan) held new told told (end_of_stopped e)
    run_over None new told e c files = tt
    run_over (Some before) new told e c files = run_ends e.next e.end c (traces before new told
        told) files refl

    pub ends-run : (held new : Option Files) (told : Option (List ℕ)) (e : Stopped) (r : Result
        Totals End) → IfSome (end_of_error e.end) (StartComesTo (limits_of job) s)
        → IfSome held (λ files. LeavesRun (turns_for job s) (limits_of job) s (came_for job (Err e))
        files new) → IsErrAnd r (λ y. y ≡ end_of_stopped e)
        → EndsOver (Ok the_plan) held new told told (end_of r)
    ends-run held new told e r c files err = at_error (EndsOver (Ok the_plan) held new told told) r
        (end_of_stopped e) err (run_over held new told e c files)

    -- the run is finished, and memory ran out before its outputs
    memory_over : (held new : Option Files) (told : Option (List ℕ)) (end : LiftEnd)
        → IfSome held (λ files. LeavesRun (turns_for job s) (limits_of job) s (Ok end) files new)
        → EndsOver (Ok the_plan) held new told told Memory
    memory_over None new told end files = tt
    memory_over (Some before) new told end files =
        let b : (next : Slot) × LeavesRun (turns_for job s) (limits_of job) s (Err (named next))
        before new = broken_off (first_slot s) (interval_for job.tables job.backup) (file_name
        (project_of job) Ckp0) (file_name (project_of job) Ckp1) (limits_of job) s end before new
        files in
        record {
          comes = tt;
          leaves = (part_of_slot b.0, broke b.0 (traces before new told told) b.1 refl);
        }

    pub ends-memory : (held new : Option Files) (told : Option (List ℕ)) (end : LiftEnd) (r : Result
        Totals End) → IfSome held (λ files. LeavesRun (turns_for job s) (limits_of job) s (Ok end)
        files new)
        → IsErrAnd r (λ y. y ≡ Memory) → EndsOver (Ok the_plan) held new told told (end_of r)
    ends-memory held new told end r files err = at_error (EndsOver (Ok the_plan) held new told told)
        r Memory err (memory_over held new told end files)

-- ---- the writing was cut
-- what holds of the output files holds of the one that was cut
cut_part : (tool : Tool) (S : ToolSystem) (rows : List (List ℤ)) (project : List ℕ) (files : List
    OutputFile) (part : Part) (old new : Option Files) → AreSelectedOf tool S rows files
    → IsCutAt project files part old new → (P : Part → Type 0) → P Gra → P Hil → P Zhom → P Zinhom → P part
cut_part Graver S rows project files part old new w cut P gra hil zhom zinhom =
    let at : IsCutAt project (file_of Gra S.n w.0 ∷ []) part old new = subst (λ fs. IsCutAt project
    fs part old new) w.2 cut in
    elim at [ inl h ↦ subst P (sym h.0) gra | inr h ↦ absurd h ]
cut_part Hilbert S rows project files part old new w cut P gra hil zhom zinhom =
    let at : IsCutAt project (file_of Hil S.n w.0 ∷ []) part old new = subst (λ fs. IsCutAt project
    fs part old new) w.2 cut in
    elim at [ inl h ↦ subst P (sym h.0) hil | inr h ↦ absurd h ]
cut_part Zsolve S rows project files part old new w cut P gra hil zhom zinhom =
    let at : IsCutAt project (file_of Zhom S.n w.0 ∷ file_of Zinhom S.n w.1 ∷ []) part old new =
    subst (λ fs. IsCutAt project fs part old new) w.4 cut in
    elim at [
      | inl h ↦ subst P (sym h.0) zhom
      | inr h ↦ elim h [
        | inl k ↦ subst P (sym k.0) zinhom
        | inr k ↦ absurd k
      ]
    ]

-- with tables no file is written, and so none is cut
cut_written : (project : List ℕ) (tables : Option ℕ) (outputs : List OutputFile) (part : Part) (old
    new : Option Files) → IsCutAt project (to_write tables outputs) part old new
    → IsCutAt project outputs part old new
cut_written project None outputs part old new cut = cut
cut_written project (Some k) outputs part old new cut = absurd cut

-- no output file is standard output
pub cut_is_not_out : (S : ToolSystem) (rows : List (List ℤ)) (project : List ℕ) (tables : Option ℕ)
    (outputs : List OutputFile) → AreSelectedOf S.tool S rows outputs
    → (r : Result Totals End) (e : End) (old new : Option Files)
    → CutsTo project (to_write tables outputs) old new e → IsErrAnd r (λ y. y ≡ e)
    → end_of r ≡ Outside Out → ⊥
cut_is_not_out S rows project tables outputs selected (Ok totals) e old new cut err is = absurd err
cut_is_not_out S rows project tables outputs selected (Err y) e old new cut err is =
    let at : IsCutAt project (to_write tables outputs) Out old new = subst (CutsTo project (to_write
    tables outputs) old new) (sym err ∙ is) cut in
    cut_part S.tool S rows project outputs Out old new selected (cut_written project tables outputs
    Out old new at)
    (λ q. q ≡ Out → ⊥) (λ p. cc) (λ p. cc) (λ p. cc) (λ p. cc) refl

-- ---- a run that is finished
module _ (tool : Tool) (job : Job) (input : Input) (stored : Stored) (S : ToolSystem) (rows : List
    (List ℤ)) (outputs : List OutputFile) (selected : AreSelectedOf S.tool S rows outputs)
    (used : ℕ) (finishes : Finishes (record {
      job = job;
      tool = tool;
      input = input;
      stored = stored;
    }) used outputs) where
  abbrev its_plan : Plan
  its_plan = record { job = job; tool = tool; input = input; stored = stored }

  abbrev LeavesFinished : Option Files → Option Files → Type 0
  LeavesFinished held mid = IfSome held (λ files. LeavesRun (turns_for job finishes.start)
      (limits_of job) finishes.start (Ok (finished finishes.rows used)) files mid)

  abbrev BackedUp : Files → Files → Type 0
  BackedUp before mid = BacksUp its_plan finishes.start (Ok (finished finishes.rows used)) before (Some mid)

  -- with the files that stand after the run
  with_files : (before : Files) (mid : Option Files) (P : Option Files → Type 0)
      → BacksUp its_plan finishes.start (Ok (finished finishes.rows used)) before mid
      → ((files : Files) → BackedUp before files → P (Some files)) → P mid
  with_files before mid P left follows =
      let s : (files : Files) × (mid ≡ Some files) = stand (turns_for job finishes.start) (limits_of
      job) finishes.start (finished finishes.rows used) before mid left in
      subst P (sym s.1) (follows s.0 (subst (λ (m : Option Files). BacksUp its_plan finishes.start
      (Ok (finished finishes.rows used)) before m) s.1 left))

  cut_leaves : (before mid : Files) (new : Option Files) (told : Option (List ℕ)) (part : Part)
      → BackedUp before mid → IsCutAt (project_of job) (to_write job.tables outputs) part (Some mid) new
      → LeavesCut (Ok its_plan) (traces before new told told) part
  cut_leaves before mid new told part left cut =
      let P : Part → Type 0 = λ q. IsCutInFile its_plan (traces before new told told) q
      → LeavesCut (Ok its_plan) (traces before new told told) q in
      let back : P part = cut_part S.tool S rows (project_of job) outputs part (Some mid) new
      selected (cut_written (project_of job) job.tables outputs part (Some mid) new cut) P (λ h.
      h) (λ h. h) (λ h. h) (λ h. h) in
      back (record {
        pairs = used;
        outputs = outputs;
        finishes = finishes;
        files = mid;
        backups =
            left;
        cut = cut;
        out = refl;
      })

  cut_ends : (before mid : Files) (new : Option Files) (told : Option (List ℕ)) (e : End)
      → BackedUp before mid → CutsTo (project_of job) (to_write job.tables outputs) (Some mid) new e
      → Ends (Ok its_plan) (traces before new told told) e
  cut_ends before mid new told (Outside part) left h = record {
    comes = tt;
    leaves = cut_leaves
        before mid new told part left h;
  }
  cut_ends before mid new told Memory left h = record {
    comes = tt;
    leaves = (
      h.0,
      cut_leaves before
          mid new told h.0 left h.1,
    );
  }
  cut_ends before mid new told e left h = absurd h

  cut_over : (held mid new : Option Files) (told : Option (List ℕ)) (e : End)
      → LeavesFinished held mid → CutsTo (project_of job) (to_write job.tables outputs) mid new e
      → EndsOver (Ok its_plan) held new told told e
  cut_over None mid new told e left h = tt
  cut_over (Some before) mid new told e left h =
      with_files before mid (λ m. CutsTo (project_of job) (to_write job.tables outputs) m new e
      → Ends (Ok its_plan) (traces before new told told) e) left
      (λ files backups cut. cut_ends before files new told e backups cut) h

  pub ends-cut : (held mid new : Option Files) (told : Option (List ℕ)) (e : End) (r : Result Totals
      End) → LeavesFinished held mid → CutsTo (project_of job) (to_write job.tables outputs) mid new e
      → IsErrAnd r (λ y. y ≡ e) → EndsOver (Ok its_plan) held new told told (end_of r)
  ends-cut held mid new told e r left h err = at_error (EndsOver (Ok its_plan) held new told told) r
      e err (cut_over held mid new told e left h)

  -- ---- all is written, and the summary was put or cut
  told_ends : (before mid : Files) (new : Option Files) (told tells : Option (List ℕ)) (r : Result
      Totals End) → BackedUp before mid → new ≡ Some (written_all (project_of job) (to_write
      job.tables outputs) mid)
      → TellsOf job outputs used told tells r → Ends (Ok its_plan) (traces before new told tells) (end_of r)
  told_ends before mid new told tells (Ok totals) left whole h = record {
    comes = record {
      outputs = outputs;
      finishes = subst (λ n. Finishes its_plan n outputs) (sym h.pairs_are) finishes;
      solutions_are = h.solutions_are;
      norms_are = h.norms_are;
    };
    leaves = record {
      written = record {
        pairs = used;
        outputs = outputs;
        finishes = finishes;
        files = mid;
        backups
            = left;
        whole = whole;
      };
      out = h.out;
    };
  }
  told_ends before mid new told tells (Err (Outside part)) left whole h = record {
    comes = tt;
    leaves = subst (LeavesCut (Ok its_plan) (traces before new told tells)) (sym h.0)
        (record {
          pairs = used;
          outputs = outputs;
          finishes = finishes;
          files = mid;
          backups = left;
          whole = whole;
          out = h.1;
        });
  }
  told_ends before mid new told tells (Err Memory) left whole h = record {
    comes = tt;
    leaves = (
      Out,
      record {
        pairs = used;
        outputs = outputs;
        finishes = finishes;
        files = mid;
        backups = left;
        whole = whole;
        out = h;
      },
    );
  }
  told_ends before mid new told tells (Err e) left whole h = absurd h

  told_over : (held mid new : Option Files) (told tells : Option (List ℕ)) (r : Result Totals End) →
      LeavesFinished held mid → new ≡ option_map (written_all (project_of job) (to_write job.tables
      outputs)) mid
      → TellsOf job outputs used told tells r → EndsOver (Ok its_plan) held new told tells (end_of r)
  told_over None mid new told tells r left whole h = tt
  told_over (Some before) mid new told tells r left whole h =
      with_files before mid (λ m. new ≡ option_map (written_all (project_of job) (to_write
      job.tables outputs)) m → Ends (Ok its_plan) (traces before new told tells) (end_of r)) left
      (λ files backups w. told_ends before files new told tells r backups w h) whole

  pub ends-told : (held mid new : Option Files) (told tells : Option (List ℕ)) (r : Result Totals
      End) → LeavesFinished held mid → new ≡ option_map (written_all (project_of job) (to_write
      job.tables outputs)) mid
      → TellsOf job outputs used told tells r → EndsOver (Ok its_plan) held new told tells (end_of r)
  ends-told held mid new told tells r left whole h = told_over held mid new told tells r left whole h

-- ---- what standard output has gained
pub tells-told : (job : Job) (outputs : List OutputFile) (used : ℕ) (told tells : Option (List ℕ))
    (r : Result Totals End) → TellsOf job outputs used told tells r → Tells (Some job) told tells (end_of r)
tells-told job outputs used told tells (Ok totals) h = h.out
tells-told job outputs used told tells (Err (Outside part)) h = inr (
  h.0,
  (
    total_rows outputs,
    used,
    norms_in outputs,
    h.1,
  ),
)
tells-told job outputs used told tells (Err Memory) h = inr (total_rows outputs, used, norms_in outputs, h)
tells-told job outputs used told tells (Err e) h = absurd h
