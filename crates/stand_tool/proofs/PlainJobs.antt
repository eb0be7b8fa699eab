-- A job without tables, backups and restart: it starts from nothing, and its run leaves the files as they are.
use Rattle.std.proofs.Common.{◌≡◌, ◌∙◌, ℕ, List, [], ◌∷◌, Bool, true, false, Option, None, Some, Result, IfSome, refl, ap, sym}
use Rattle.std.specs.Prelude.{◌&&◌, is_none, not, if◌then◌else◌, unwrap_or}
use Rattle.outside.specs.Files.{Files}
use Rattle.lift_core.specs.Systems.{ToolSystem}
use Rattle.lift_core.specs.declared.Tool.{Tool}
use Rattle.stage_store.specs.declared.stage.Finish.{Finish}
use Rattle.backups.specs.declared.running.Stopped.{Stopped}
use Rattle.backups.specs.declared.starts.Slot.TheVariants.{First}
use Rattle.backups.specs.declared.starts.Start.TheVariants.{Fresh}
use Rattle.backups.specs.Standing.{came_to, turns_from, LeavesRun}
use Rattle.tool_words.specs.Jobs.{job_of}
use Rattle.tool_words.specs.declared.jobs.Job.{Job}
use Rattle.tool_top.specs.declared.ends.Part.TheVariants.{Ckp0, Ckp1}
use Rattle.tool_top.specs.Names.{file_name}
use Rattle.tool_top.specs.Plan.{project_of, resumes, interval_for}
use Rattle.tool_top.specs.Expected.{limits_of}
use Rattle.tool_top.specs.Left.{turns_for}
use Rattle.tool_top.specs.Inside.Ends.{came_for}
use Rattle.tool_top.proofs.Finished.{leaves-job}
use Rattle.stand_tool.specs.declared.request.Request.{Request}
use Rattle.stand_tool.specs.Requests.{is_plain, plain_request, request_with, request_of, tool_in}

-- ---- what such a job lacks
no_interval : (tables backup : Option ℕ) (resume : Bool) → (is_none tables && (is_none backup && not resume)) ≡ true → None ≡ interval_for tables backup
no_interval None None resume plain = refl
no_interval None (Some n) resume plain = absurd (cc)
no_interval (Some k) backup resume plain = refl

no_restart : (tables backup : Option ℕ) (resume : Bool) → (is_none tables && (is_none backup && not resume)) ≡ true → (is_none tables && resume) ≡ false
no_restart None None false plain = refl
no_restart None None true plain = absurd (cc)
no_restart None (Some n) resume plain = absurd (cc)
no_restart (Some k) backup resume plain = refl

no_tables : (tables backup : Option ℕ) (resume : Bool) → (is_none tables && (is_none backup && not resume)) ≡ true → tables ≡ None
no_tables None backup resume plain = refl
no_tables (Some k) backup resume plain = absurd (cc)

not_resumed : (tables backup : Option ℕ) (resume : Bool) → (is_none tables && (is_none backup && not resume)) ≡ true → resume ≡ false
not_resumed None None false plain = refl
not_resumed None None true plain = absurd (cc)
not_resumed None (Some n) resume plain = absurd (cc)
not_resumed (Some k) backup resume plain = absurd (cc)

pub plain_start : (job : Job) → is_plain job ≡ true → resumes job ≡ false
plain_start job plain = no_restart job.tables job.backup job.resume plain

pub plain_tables : (job : Job) → is_plain job ≡ true → job.tables ≡ None
plain_tables job plain = no_tables job.tables job.backup job.resume plain

pub plain_resume : (job : Job) → is_plain job ≡ true → job.resume ≡ false
plain_resume job plain = not_resumed job.tables job.backup job.resume plain

-- ---- what its run leaves
pub leaves_plain : (job : Job) (S : ToolSystem) (r : Result Finish Stopped) → is_plain job ≡ true
    → ((first second : List ℕ) (files : Files) → LeavesRun (turns_from First None first second) (limits_of job) (Fresh S) (came_to first second r) files (Some files))
    → (held : Option Files) → IfSome held (λ files. LeavesRun (turns_for job (Fresh S)) (limits_of job) (Fresh S) (came_for job r) files held)
leaves_plain job S r plain leaves None = tt
leaves_plain job S r plain leaves (Some files) =
    let first = file_name (project_of job) Ckp0 in
    let second = file_name (project_of job) Ckp1 in
    leaves-job job (Fresh S) None first second r (Some files) (Some files) (no_interval job.tables job.backup job.resume plain) refl refl (leaves first second files)

-- ---- each job that the words ask for is such a job
chosen : (tool : Tool) (job : Job) (r : Request) (b : Bool) → is_plain job ≡ b → (if b then Some (record { tool = tool; job = job }) else None) ≡ Some r → is_plain r.job ≡ true
chosen tool job r true plain is =
    sym (ap (λ (o : Option Request). is_plain (unwrap_or o (record { tool = tool; job = job })).job) is) ∙ plain
chosen tool job r false plain is = absurd (cc)

of_job : (tool : Tool) (job : Option Job) (r : Request) → plain_request tool job ≡ Some r → is_plain r.job ≡ true
of_job tool None r is = absurd (cc)
of_job tool (Some job) r is = chosen tool job r (is_plain job) refl is

of_tool : (tool : Option Tool) (words : List (List ℕ)) (r : Request) → request_with tool words ≡ Some r → is_plain r.job ≡ true
of_tool None words r is = absurd (cc)
of_tool (Some tool) words r is = of_job tool (job_of tool words) r is

pub asked_plain : (words : List (List ℕ)) (r : Request) → request_of words ≡ Some r → is_plain r.job ≡ true
asked_plain [] r is = absurd (cc)
asked_plain (word ∷ words) r is = of_tool (tool_in word) words r is
