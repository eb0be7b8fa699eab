-- The ends of the command stand for those of the command that it runs.
use Rattle.std.specs.Prelude.{true}
use Rattle.std.proofs.Common.{◌≡◌, ◌≢◌, ◌⊎◌, ◌∙◌, inl, inr, ℕ, List, Option, None, Some, Result, Ok, Err, IfSome, IfOk, IsOkAnd, refl, ap, sym, subst}
use Rattle.outside.specs.Files.{Files}
use Rattle.lift_core.specs.declared.Tool.TheVariants.{Graver}
use Rattle.system_shape.specs.Shape.{tool_system}
use Rattle.system_files.specs.Inputs.{FindsBy, IsShaped}
use Rattle.system_files.specs.declared.sources.Source.{Source}
use Rattle.system_files.specs.declared.systems.Shaped.{Shaped}
use Rattle.system_files.specs.declared.faults.FileFault.TheVariants as file_fault
use Rattle.system_files.specs.declared.faults.InputFault.{InputFault}
use Rattle.system_files.specs.declared.faults.InputFault.TheVariants as input_fault
use Rattle.system_files.specs.declared.faults.InputStop.{InputStop}
use Rattle.system_files.specs.declared.faults.InputStop.TheVariants as stop
use Rattle.standing_pool.specs.declared.ends.StandEnd.TheVariants as run
use Rattle.lift_run.specs.declared.ends.Place.TheVariants.{Row, Norm}
use Rattle.lift_core.specs.declared.Tool.{Tool}
use Rattle.backups.specs.Starts.{Stored}
use Rattle.backups.specs.declared.starts.Start.TheVariants.{Fresh}
use Rattle.tool_words.specs.declared.jobs.Job.{Job}
use Rattle.tool_words.specs.declared.jobs.WordEnd.{WordEnd}
use Rattle.tool_words.specs.declared.jobs.WordEnd.TheVariants as words
use Rattle.tool_top.specs.declared.ends.Part.{Part}
use Rattle.tool_top.specs.declared.ends.Part.TheVariants.{Out}
use Rattle.tool_top.specs.declared.ends.End.{End}
use Rattle.tool_top.specs.declared.ends.End.TheVariants as top
use Rattle.tool_top.specs.Plan.{Plan, input_for, project_of, part_of, answer_of, plan_of, resumes}
use Rattle.tool_top.specs.Expected.{StartsAs, IsExpected, IsExpectedOr}
use Rattle.tool_top.specs.Left.{HasWritten}
use Rattle.tool_top.specs.Summary.{Tells}
use Rattle.tool_top.specs.Inside.Ends.{Ends}
use Rattle.tool_top.specs.Inside.Ends.{end_of_stop as tool_stop, end_of_words as tool_words}
use Rattle.tool_top.proofs.Conclusions.{traces, EndsOver, ends-early, ends-carried, found-fresh, ends-words, all-written}
use Rattle.tool_top.proofs.Solved.{all-solved}
use Rattle.stand_tool.specs.declared.request.Request.{Request}
use Rattle.stand_tool.specs.declared.ends.TopEnd.{TopEnd}
use Rattle.stand_tool.specs.declared.ends.TopEnd.TheVariants.{Done, Usage, Input, Run, Outside, Memory}
use Rattle.stand_tool.specs.Requests.{is_plain, request_of, AsksFor}
use Rattle.stand_tool.specs.Plans.{plan_for}
use Rattle.stand_tool.specs.Solved.{IsSolved}
use Rattle.stand_tool.specs.Ends.{StandsFor, Stands, OnDone}
use Rattle.stand_tool.specs.Inside.Ends.{Asks, end_of_stop, end_of_words}
use Rattle.stand_tool.proofs.PlainJobs.{plain_start, plain_tables, plain_resume}

-- what holds of an end of the command that is run, over a folder that tells its files
pub over_stands : (end : TopEnd) (its : End) (held : Option Files) (P : Files → End → Type 0) → StandsFor end its
    → IfSome held (λ files. P files its) → IfSome held (λ files. Stands end (P files))
over_stands end its None P stands h = tt
over_stands end its (Some files) P stands h = (its, stands, h)

-- ---- the files are refused
stands_stop : (e : InputStop) → StandsFor (end_of_stop e) (tool_stop e)
stands_stop (stop.Bad fault) = refl
stands_stop (stop.Failed source) = (part_of source, refl)
stands_stop stop.Memory = refl

pub ends-stop : (tool : Tool) (job : Job) (held new : Option Files) (told : Option (List ℕ)) (read : Result Shaped InputStop) (e : InputStop) (end : TopEnd)
    → read ≡ Err e → new ≡ held
    → IfSome held (λ files. FindsBy (λ (s : Shaped). s.input) read (input_for tool job.tables (project_of job) files))
    → end ≡ end_of_stop e → IfSome held (λ files. Stands end (Ends (plan_of tool job files) (traces files new told told)))
ends-stop tool job held new told read e end stopped same finds is =
    let found : IfSome held (λ files. FindsBy (λ (s : Shaped). s.input) (Err e) (input_for tool job.tables (project_of job) files)) =
    subst (λ (r : Result Shaped InputStop). IfSome held (λ files. FindsBy (λ (s : Shaped). s.input) r (input_for tool job.tables (project_of job) files)))
    stopped finds in
    over_stands end (tool_stop e) held (λ files. Ends (plan_of tool job files) (traces files new told told))
    (subst (λ (x : TopEnd). StandsFor x (tool_stop e)) (sym is) (stands_stop e))
    (ends-early tool job held new told e (Err (tool_stop e)) same found refl)

tells_fault : (job : Option Job) (told : Option (List ℕ)) (fault : InputFault) → Tells job told told (answer_of fault)
tells_fault job told (input_fault.File at file_fault.Missing) = refl
tells_fault job told (input_fault.File at (file_fault.TooLong len)) = refl
tells_fault job told (input_fault.File at (file_fault.Text fault)) = refl
tells_fault job told (input_fault.Refused at) = refl
tells_fault job told (input_fault.Shape fault) = refl

tells_stop : (job : Option Job) (told : Option (List ℕ)) (e : InputStop) → Tells job told told (tool_stop e)
tells_stop job told (stop.Bad fault) = tells_fault job told fault
tells_stop job told (stop.Failed source) = inl refl
tells_stop job told stop.Memory = inl refl

pub tells-stop : (job : Option Job) (told : Option (List ℕ)) (e : InputStop) (end : TopEnd) → end ≡ end_of_stop e → Stands end (Tells job told told)
tells-stop job told e end is = (tool_stop e, subst (λ (x : TopEnd). StandsFor x (tool_stop e)) (sym is) (stands_stop e), tells_stop job told e)

stop_is_not_usage : (e : InputStop) → end_of_stop e ≡ Usage → ⊥
stop_is_not_usage (stop.Bad fault) is = absurd (cc)
stop_is_not_usage (stop.Failed source) is = absurd (cc)
stop_is_not_usage stop.Memory is = absurd (cc)

pub not_usage_at_stop : (e : InputStop) (end : TopEnd) → end ≡ end_of_stop e → end ≡ Usage → ⊥
not_usage_at_stop e end is usage = stop_is_not_usage e (sym is ∙ usage)

outside_at : (e : InputStop) (A : Type 0) → ((source : Source) → e ≡ stop.Failed source → A) → end_of_stop e ≡ Outside → A
outside_at (stop.Bad fault) A failed is = absurd (cc)
outside_at (stop.Failed source) A failed is = failed source refl
outside_at stop.Memory A failed is = absurd (cc)

pub outside_at_stop : (e : InputStop) (end : TopEnd) (A : Type 0) → end ≡ end_of_stop e → ((source : Source) → e ≡ stop.Failed source → A) → end ≡ Outside → A
outside_at_stop e end A is failed outside = outside_at e A failed (sym is ∙ outside)

-- ---- the run came to its end
pub ends-ran : (tool : Tool) (job : Job) (held mid new : Option Files) (told tells : Option (List ℕ)) (read : Result Shaped InputStop) (s : Shaped) (its : End) (end : TopEnd)
    → read ≡ Ok s → mid ≡ held → is_plain job ≡ true
    → IfSome held (λ files. FindsBy (λ (x : Shaped). x.input) read (input_for tool job.tables (project_of job) files))
    → IfOk read (λ x. IsShaped tool x.input x.system) → StandsFor end its
    → ((stored : Stored) → IsShaped tool s.input (tool_system tool s.input)
    → StartsAs (record { job = job; tool = tool; input = s.input; stored = stored }) (Fresh s.system)
    → EndsOver (Ok (record { job = job; tool = tool; input = s.input; stored = stored })) mid new told tells its)
    → IfSome held (λ files. Stands end (Ends (plan_of tool job files) (traces files new told tells)))
ends-ran tool job held mid new told tells read s its end is same plain finds shaped stands ends =
    let found : IfSome held (λ files. input_for tool job.tables (project_of job) files ≡ Ok s.input) =
    subst (λ (r : Result Shaped InputStop). IfSome held (λ files. FindsBy (λ (x : Shaped). x.input) r (input_for tool job.tables (project_of job) files)))
    is finds in
    let fits : IsShaped tool s.input s.system = subst (λ (r : Result Shaped InputStop). IfOk r (λ x. IsShaped tool x.input x.system)) is shaped in
    over_stands end its held (λ files. Ends (plan_of tool job files) (traces files new told tells)) stands
    (ends-carried tool job s.input held mid mid new told tells s.system (Fresh s.system) its same refl found fits
    (found-fresh (resumes job) (project_of job) s.system mid (plain_start job plain)) ends)

pub not_usage : (end : TopEnd) (its : End) → StandsFor end its → (its ≡ top.Usage → ⊥) → end ≡ Usage → ⊥
not_usage end its stands other is = other (subst (λ (x : TopEnd). StandsFor x its) is stands)

-- a part is standard output, or it is not
out_or_not : (part : Part) → (part ≡ Out) ⊎ (part ≢ Out)
out_or_not Out = inl refl
out_or_not part = inr (λ e. cc)

pub outside_of : (A B : Type 0) (end : TopEnd) (its : End) → StandsFor end its → ((p : Part) → its ≡ top.Outside p → p ≢ Out → A)
    → (its ≡ top.Outside Out → B) → end ≡ Outside → A ⊎ B
outside_of A B end its stands folder out is =
    let at : StandsFor Outside its = subst (λ (x : TopEnd). StandsFor x its) is stands in
    elim (out_or_not at.0) [
      | inl same ↦ inr (out (at.1 ∙ ap (λ (p : Part). top.Outside p) same))
      | inr other ↦ inl (folder at.0 at.1 other)
    ]

-- ---- the words are refused
stands_words : (e : WordEnd) → StandsFor (end_of_words e) (tool_words e)
stands_words words.Usage = refl
stands_words words.Memory = refl

asks_words : (asked : Option Request) (e : WordEnd) → Asks asked (Err e) → (files : Files) (told : Option (List ℕ))
    → Ends (plan_for asked files) (traces files (Some files) told told) (tool_words e)
asks_words None words.Usage is files told = ends-words Graver words.Usage None (Some files) told top.Usage refl refl
asks_words None words.Memory is files told = ends-words Graver words.Memory None (Some files) told top.Memory tt refl
asks_words (Some r) words.Usage is files told = absurd (cc)
asks_words (Some r) words.Memory is files told = ends-words r.tool words.Memory (Some r.job) (Some files) told top.Memory tt refl

pub ends-refused : (asked : Option Request) (e : WordEnd) (held : Option Files) (told : Option (List ℕ)) (end : TopEnd) → Asks asked (Err e) → end ≡ end_of_words e
    → IfSome held (λ files. Stands end (Ends (plan_for asked files) (traces files held told told)))
ends-refused asked e None told end asks is = tt
ends-refused asked e (Some files) told end asks is =
    (tool_words e, subst (λ (x : TopEnd). StandsFor x (tool_words e)) (sym is) (stands_words e), asks_words asked e asks files told)

tells_words : (job : Option Job) (told : Option (List ℕ)) (e : WordEnd) → Tells job told told (tool_words e)
tells_words job told words.Usage = refl
tells_words job told words.Memory = inl refl

pub tells-refused : (job : Option Job) (told : Option (List ℕ)) (e : WordEnd) (end : TopEnd) → end ≡ end_of_words e → Stands end (Tells job told told)
tells-refused job told e end is = (tool_words e, subst (λ (x : TopEnd). StandsFor x (tool_words e)) (sym is) (stands_words e), tells_words job told e)

-- the request that was read is the one that the words ask for
pub asks_of : (text : List (List ℕ)) (r : Result Request WordEnd) → AsksFor text r → Asks (request_of text) r
asks_of text (Ok r) h = h
asks_of text (Err words.Usage) h = h
asks_of text (Err words.Memory) h = tt

-- ---- the clauses of the top call
-- what follows of the ends for which an end stands
pub all-stand : (end : TopEnd) (held : Option Files) (P Q : Files → End → Type 0) → ((files : Files) (its : End) → P files its → Q files its)
    → IfSome held (λ files. Stands end (P files)) → IfSome held (λ files. Stands end (Q files))
all-stand end None P Q follows h = tt
all-stand end (Some files) P Q follows h = (h.0, h.1, follows files h.0 h.2)

written_at : (plan : Result Plan End) (files : Files) (new : Option Files) (told tells : Option (List ℕ)) (end : TopEnd)
    → Stands end (Ends plan (traces files new told tells)) → OnDone end (IsOkAnd plan (λ p. HasWritten p files new))
written_at plan files new told tells (Done s u) h =
    let ends : Ends plan (traces files new told tells) (top.Done s u h.1.0) = subst (Ends plan (traces files new told tells)) h.1.1 h.2 in
    all-written (Some files) new (λ f. plan) told tells (top.Done s u h.1.0) ends
written_at plan files new told tells end h = tt

pub all-written-of : (held new : Option Files) (plan : Files → Result Plan End) (told tells : Option (List ℕ)) (end : TopEnd)
    → IfSome held (λ files. Stands end (Ends (plan files) (traces files new told tells)))
    → IfSome held (λ files. OnDone end (IsOkAnd (plan files) (λ p. HasWritten p files new)))
all-written-of None new plan told tells end h = tt
all-written-of (Some files) new plan told tells end h = written_at (plan files) files new told tells end h

-- what is written is what is wanted, as the job begins from nothing
solves : (asked : Option Request) → ((r : Request) → asked ≡ Some r → is_plain r.job ≡ true) → (before : Files) (after : Option Files)
    → IsOkAnd (plan_for asked before) (λ p. HasWritten p before after) → IsSolved asked before after
solves None plain before after h = h
solves (Some r) plain before after h =
    all-solved r.tool (Some r.job) (Some before) after (top.Done 0 0 0) h (plain_tables r.job (plain r refl)) (plain_resume r.job (plain r refl))

solved_at : (end : TopEnd) (A B : Type 0) → (A → B) → OnDone end A → OnDone end B
solved_at (Done s u) A B f h = f h
solved_at end A B f h = tt

pub all-solved-of : (held new : Option Files) (asked : Option Request) (end : TopEnd) → ((r : Request) → asked ≡ Some r → is_plain r.job ≡ true)
    → IfSome held (λ files. OnDone end (IsOkAnd (plan_for asked files) (λ p. HasWritten p files new)))
    → IfSome held (λ files. OnDone end (IsSolved asked files new))
all-solved-of None new asked end plain h = tt
all-solved-of (Some files) new asked end plain h =
    solved_at end (IsOkAnd (plan_for asked files) (λ p. HasWritten p files new)) (IsSolved asked files new) (solves asked plain files new) h

-- an end that is neither a device's fault nor running out of memory stands for the expected one
expected_fault : (plan : Result Plan End) (fault : InputFault) → IsExpectedOr plan (answer_of fault) → IsExpected plan (answer_of fault)
expected_fault plan (input_fault.File at file_fault.Missing) h = h
expected_fault plan (input_fault.File at (file_fault.TooLong len)) h = h
expected_fault plan (input_fault.File at (file_fault.Text fault)) h = h
expected_fault plan (input_fault.Refused at) h = h
expected_fault plan (input_fault.Shape fault) h = h

expected_at : (plan : Result Plan End) (end : TopEnd) → Stands end (IsExpectedOr plan) → (end ≡ Outside → ⊥) → Stands end (IsExpected plan) ⊎ (end ≡ Memory)
expected_at plan (Done s u) h calm = inl (top.Done s u h.1.0, (h.1.0, refl), subst (IsExpectedOr plan) h.1.1 h.2)
expected_at plan Usage h calm = inl (top.Usage, refl, subst (IsExpectedOr plan) h.1 h.2)
expected_at plan (Input fault) h calm = inl (answer_of fault, refl, expected_fault plan fault (subst (IsExpectedOr plan) h.1 h.2))
expected_at plan (Run (run.Overflow k (Row v))) h calm = inl (top.Overflow k (Row v), refl, subst (IsExpectedOr plan) h.1 h.2)
expected_at plan (Run (run.Overflow k (Norm d))) h calm = inl (top.Overflow k (Norm d), refl, subst (IsExpectedOr plan) h.1 h.2)
expected_at plan (Run (run.Pairs k d n)) h calm = inl (top.Pairs k d n, refl, subst (IsExpectedOr plan) h.1 h.2)
expected_at plan (Run (run.Rows k d n)) h calm = inl (top.Rows k d n, refl, subst (IsExpectedOr plan) h.1 h.2)
expected_at plan (Run run.Memory) h calm = absurd h.1
expected_at plan Outside h calm = absurd (calm refl)
expected_at plan Memory h calm = inr refl

pub headline : (A B : Type 0) (held : Option Files) (plan : Files → Result Plan End) (end : TopEnd)
    → IfSome held (λ files. Stands end (IsExpectedOr (plan files))) → (end ≡ Outside → A ⊎ B)
    → IfSome held (λ files. (A → ⊥) → (B → ⊥) → Stands end (IsExpected (plan files)) ⊎ (end ≡ Memory))
headline A B None plan end h outside = tt
headline A B (Some files) plan end h outside =
    λ a b. expected_at (plan files) end h (λ is. elim (outside is) [ inl x ↦ a x | inr y ↦ b y ])

-- an end that stands for one is not that a run is out of memory
pub not_memory : (end : TopEnd) (P : End → Type 0) → Stands end P → end ≡ Run run.Memory → ⊥
not_memory end P h is = subst (λ (x : TopEnd). StandsFor x h.0) is h.1
