-- The theorem of a run from nothing, drawn from what every run leaves.
use Rattle.std.specs.Prelude.{codes, ◌&&◌, is_none}
use Rattle.std.specs.Option.{IsSomeAnd}
use Rattle.std.specs.List.{AllByRecursion}
use Rattle.std.proofs.Common.{◌≡◌, ◌∙◌, ◌+◌, ℕ, List, length, Bool, true, false, Option, None, Some, Result, Ok, Err, IfSome, IsOkAnd, ap, sym, subst, arith, length-append}
use Rattle.outside.specs.Files.{Files, written}
use Rattle.lift_core.specs.Systems.{ToolSystem}
use Rattle.lift_core.specs.declared.Tool.{Tool}
use Rattle.lift_core.specs.declared.Tool.TheVariants.{Graver, Hilbert, Zsolve}
use Rattle.system_shape.specs.Problem.{UserSystem}
use Rattle.system_shape.specs.declared.files.Input.{Input}
use Rattle.mat_files.specs.Tables.{◌>>=◌}
use Rattle.system_files.specs.Inputs.{accepted_in}
use Rattle.system_files.specs.declared.faults.InputFault.{InputFault}
use Rattle.backups.specs.declared.starts.Start.{Start}
use Rattle.backups.specs.declared.starts.Start.TheVariants.{Fresh}
use Rattle.backups.proofs.Whole.{written_file, other_file}
use Rattle.tool_words.specs.declared.jobs.Job.{Job}
use Rattle.tool_top.specs.declared.ends.Part.TheVariants.{Gra, Hil, Zhom, Zinhom}
use Rattle.tool_top.specs.declared.ends.End.{End}
use Rattle.tool_top.specs.declared.ends.End.TheVariants.{Done}
use Rattle.tool_top.specs.Names.{file_name}
use Rattle.tool_top.specs.Plan.{Plan, plan_of, plan_for, user_of, system_of_plan, project_of, answered, input_for, stored_of}
use Rattle.tool_top.specs.Outputs.{OutputFile, file_of, AreOutputsOf, AreOutputs, written_all, to_write}
use Rattle.tool_top.specs.Expected.{Starts, OnDone}
use Rattle.tool_top.specs.Left.{HasWritten}
use Rattle.tool_top.specs.Solved.{IsHeld, HoldsWantedLists, IsSolved}

-- the two files of zsolve have names of their own
names_differ : (project : List ℕ) → file_name project Zhom ≡ file_name project Zinhom → ⊥
names_differ project e =
    let lengths : length project + 5 ≡ length project + 7 = sym (length-append project (codes ".zhom")) ∙ ap length e ∙ length-append project (codes ".zinhom")
    in omega (arith, lengths)

-- files that were written are held
held_all : (tool : Tool) (U : UserSystem) (n : ℕ) (project : List ℕ) (files : Files) (outputs : List OutputFile)
    → AreOutputsOf tool U n outputs
    → AllByRecursion (IsHeld project (written_all project outputs files)) outputs
held_all Graver U n project files outputs (rows, wanted, is) =
    subst (λ os. AllByRecursion (IsHeld project (written_all project os files)) os) (sym is)
    (written_file (file_name project Gra) (file_of Gra n rows).text files, tt)
held_all Hilbert U n project files outputs (rows, wanted, is) =
    subst (λ os. AllByRecursion (IsHeld project (written_all project os files)) os) (sym is)
    (written_file (file_name project Hil) (file_of Hil n rows).text files, tt)
held_all Zsolve U n project files outputs (hom, inhom, first, second, is) =
    let one = written (file_name project Zhom) (file_of Zhom n hom).text files in
    subst (λ os. AllByRecursion (IsHeld project (written_all project os files)) os) (sym is) (
      other_file (file_name project Zinhom) (file_name project Zhom) (file_of Zinhom n inhom).text one (names_differ project)
          ∙ written_file (file_name project Zhom) (file_of Zhom n hom).text files,
      (written_file (file_name project Zinhom) (file_of Zinhom n inhom).text one, tt),
    )

-- a run that does not resume starts from nothing
starts_fresh : (S : ToolSystem) (p : Plan) (start : Start) (tables : Option ℕ) (resume : Bool) → tables ≡ None
    → resume ≡ false → Starts (is_none tables && resume) S p.stored start → start ≡ Fresh S
starts_fresh S p start None false none fresh starts = starts
starts_fresh S p start None true none fresh starts = cc
starts_fresh S p start (Some k) resume none fresh starts = cc

-- a plan's run from nothing
plan_solved : (p : Plan) (before : Files) (after : Option Files) → p.job.tables ≡ None
    → p.job.resume ≡ false → HasWritten p before after
    → IsSomeAnd after (HoldsWantedLists p.tool (project_of p.job) p.input)
plan_solved p before after none fresh w =
    let is : w.finishes.start ≡ Fresh (system_of_plan p) = starts_fresh (system_of_plan p) p w.finishes.start p.job.tables p.job.resume none fresh w.finishes.starts in
    let wanted : AreOutputsOf p.tool (user_of p) p.input.mat.cols w.outputs = subst (λ s. AreOutputs p s w.outputs) is w.finishes.wanted in
    let whole : after ≡ Some (written_all (project_of p.job) w.outputs w.files) = subst (λ t. after ≡ Some (written_all (project_of p.job) (to_write t w.outputs) w.files)) none w.whole in
    subst (λ o. IsSomeAnd o (HoldsWantedLists p.tool (project_of p.job) p.input)) (sym whole) (record {
      outputs = w.outputs;
      wanted = wanted;
      held = held_all p.tool (user_of p) p.input.mat.cols (project_of p.job) w.files w.outputs wanted;
    })

-- the plan of a job and what its files say
abbrev planned_by : Tool → Job → Files → Input → Plan
planned_by tool job files input =
    record { job = job; tool = tool; input = input; stored = stored_of (project_of job) files }

-- what is left where the files are accepted, and where they are not
read_solved : (tool : Tool) (job : Job) (before : Files) (after : Option Files) → job.tables ≡ None
    → job.resume ≡ false → (r : Result Input InputFault)
    → IsOkAnd (answered r >>= (λ input. Ok (planned_by tool job before input))) (λ p. HasWritten p before after)
    → IsOkAnd r (λ input. IsSomeAnd after (HoldsWantedLists tool (project_of job) input))
read_solved tool job before after none fresh (Ok input) h =
    plan_solved (planned_by tool job before input) before after none fresh h
read_solved tool job before after none fresh (Err fault) h = h

-- a job that begins from nothing
job_solved : (tool : Tool) (job : Job) (before : Files) (after : Option Files)
    → IsOkAnd (plan_of tool job before) (λ p. HasWritten p before after)
    → IsSolved tool (Some job) before after
job_solved tool job before after h none fresh =
    read_solved tool job before after none fresh (accepted_in tool (project_of job) before) (subst (λ t.
    IsOkAnd (answered (input_for tool t (project_of job) before) >>= (λ input. Ok (planned_by tool job before input)))
    (λ p. HasWritten p before after)) none h)

-- a job, where the words ask for one
solves : (tool : Tool) (asked : Option Job) (before : Files) (after : Option Files)
    → IsOkAnd (plan_for tool asked before) (λ p. HasWritten p before after)
    → IsSolved tool asked before after
solves tool None before after h = h
solves tool (Some job) before after h = job_solved tool job before after h

on_done : (e : End) (A B : Type 0) → (A → B) → OnDone e A → OnDone e B
on_done (Done s u n) A B f h = f h
on_done e A B f h = tt

-- what the top call says of each end
pub all-solved : (tool : Tool) (asked : Option Job) (held new : Option Files) (e : End)
    → IfSome held (λ files. OnDone e (IsOkAnd (plan_for tool asked files) (λ p. HasWritten p files new)))
    → IfSome held (λ files. OnDone e (IsSolved tool asked files new))
all-solved tool asked None new e h = tt
all-solved tool asked (Some files) new e h =
    on_done e (IsOkAnd (plan_for tool asked files) (λ p. HasWritten p files new)) (IsSolved tool asked files new)
    (solves tool asked files new) h
