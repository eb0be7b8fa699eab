-- From what was written and told to the end of the run.
use Rattle.std.proofs.Common.{◌≡◌, ℕ, ◌+◌, List, [], ◌∷◌, ◌++◌, length, refl, ap, ap₂, sym, ◌∙◌, subst, inl, inr, Option, None, Some}
use Rattle.std.proofs.Common.{Result, Ok, Err, codes, le_refl}
use Rattle.std.specs.Prelude.{ℤ, IfSome, OnOk, OnErr}
use Rattle.std.proofs.lemmas.List.{take_all}
use Rattle.std.specs.List.{AllByRecursion}
use Rattle.std.specs.Io.KnownBytes.{append_known}
use Rattle.outside.specs.declared.ends.PutEnd.{PutEnd}
use Rattle.outside.specs.Files.{Files}
use Rattle.outside.specs.Pieces.{MayPut}
use Rattle.mat_files.specs.Cells.{Matrix}
use Rattle.mat_files.specs.Printed.{text_of}
use Rattle.solution_files.specs.Outputs.{written, grid_of, text_of_rows}
use Rattle.solution_files.proofs.GridText.{text_of-rows}
use Rattle.tool_frame.specs.Outputs.{OutputFile, IsCut, Traces}
use Rattle.climb_tool.specs.declared.ends.Stop.{Stop}
use Rattle.climb_tool.specs.declared.ends.Stop.TheVariants.{Usage, File, Shape, CostRange, UpperRange, Infeasible, NotKernel, Steps, Outside, Memory}
use Rattle.climb_tool.specs.declared.ends.Reached.{Reached}
use Rattle.climb_tool.specs.declared.problems.Problem.{Problem}
use Rattle.climb_tool.specs.Commands.{Command, command_in}
use Rattle.climb_tool.specs.Problems.{Plan, problem_in, planned}
use Rattle.climb_tool.specs.Paths.{Step, step_rows}
use Rattle.climb_tool.specs.Inside.Walks.{Climbed}
use Rattle.climb_tool.specs.Ends.{summary_of, output_of, AreInKernel, grid_files, both_written, reached_at, IsClimb, IsCutShort, Cut}
use Rattle.climb_tool.specs.Ends.{Published, EndsWith, Ends}

module _ (project : List ℕ) (p : Problem) (budget : ℕ) (taken : List Step) (point : List ℤ) (opt steps : Matrix) (reached : Reached)
    (climb : IsClimb p budget taken point)
    (wide : length point ≡ p.mat.cols) (long : AllByRecursion (λ row. length row ≡ p.mat.cols + 1) (step_rows taken))
    (opt_is : opt ≡ grid_of p.mat.cols (point ∷ [])) (steps_is : steps ≡ grid_of (p.mat.cols + 1) (step_rows taken))
    (reached_is : reached ≡ reached_at p taken point) where
  opt_text : text_of opt ≡ text_of_rows p.mat.cols (point ∷ [])
  opt_text = ap text_of opt_is ∙ text_of-rows p.mat.cols (point ∷ []) (wide, tt)

  steps_text : text_of steps ≡ text_of_rows (p.mat.cols + 1) (step_rows taken)
  steps_text = ap text_of steps_is ∙ text_of-rows (p.mat.cols + 1) (step_rows taken) long

  files_are : grid_files opt steps ≡ output_of p.mat.cols point taken
  files_are = ap₂ (λ s t. record { ending = codes ".opt"; text = s } ∷ record { ending = codes ".steps"; text = t } ∷ []) opt_text steps_text

  both_are : (files : Files) → both_written project opt steps (Some files)
      ≡ Some (written (project ++ codes ".steps") (text_of_rows (p.mat.cols + 1) (step_rows taken)) (written (project ++ codes ".opt")
      (text_of_rows p.mat.cols (point ∷ [])) files))
  both_are files = ap₂ (λ s t. Some (written (project ++ codes ".steps") t (written (project ++ codes ".opt") s files))) opt_text steps_text

  cut : (files : Files) (new : Option Files) (out out' : Option (List ℕ)) → Cut project opt steps reached (Some files) new out out' →
      IsCutShort project p budget (record { files_before = files; files_after = new; out_before = out; out_after = out' })
  cut files new out out' (inl c) = record {
    steps = taken;
    point = point;
    climb = climb;
    part = inl (record { files = subst (λ (fs : List OutputFile). IsCut project fs (Some files) new) files_are c.0; out = c.1 });
  }
  cut files new out out' (inr c) = record {
    steps = taken;
    point = point;
    climb = climb;
    part = inr (record { files = c.0 ∙ both_are files; out = subst (λ (r : Reached). MayPut (summary_of r) out out') reached_is c.1 });
  }

  pub published_ends : (old new : Option Files) (out out' : Option (List ℕ)) (result : Result Reached Stop) →
      Published project opt steps reached old new out out' result →
      IfSome old (λ files. EndsWith project p budget (record { files_before = files; files_after = new; out_before = out; out_after = out' }) result)
  published_ends None new out out' result h = tt
  published_ends (Some files) new out out' (Ok r) h = record {
    steps = taken;
    point = point;
    climb = climb;
    told = h.0 ∙ reached_is;
    whole = record { files = h.1 ∙ both_are files; out = h.2 ∙ ap (λ q. append_known out (summary_of q)) (sym h.0) };
  }
  published_ends (Some files) new out out' (Err Outside) h = inr (cut files new out out' h)
  published_ends (Some files) new out out' (Err Memory) h = inr (cut files new out out' h)
  published_ends (Some files) new out out' (Err Usage) h = absurd h
  published_ends (Some files) new out out' (Err (File f fault)) h = absurd h
  published_ends (Some files) new out out' (Err (Shape f r c)) h = absurd h
  published_ends (Some files) new out out' (Err (CostRange j)) h = absurd h
  published_ends (Some files) new out out' (Err (UpperRange j)) h = absurd h
  published_ends (Some files) new out out' (Err (Infeasible j)) h = absurd h
  published_ends (Some files) new out out' (Err (NotKernel r)) h = absurd h
  published_ends (Some files) new out out' (Err (Steps d)) h = absurd h

-- ---- where nothing is written
pub stopped_ends : (project : List ℕ) (p : Problem) (budget : ℕ) (old : Option Files) (out : Option (List ℕ)) (stop : Stop) →
    AreInKernel p → Climbed p budget (Err stop) →
    IfSome old (λ files. EndsWith project p budget (record { files_before = files; files_after = old; out_before = out; out_after = out }) (Err stop))
stopped_ends project p budget None out stop kernel h = tt
stopped_ends project p budget (Some files) out (Steps done) kernel h = (
  record {
    kernel = kernel;
    all = h.4;
    steps = h.1.0;
    point = h.0.point.items;
    path = h.1.1.leads;
    count = sym h.1.1.count ∙ h.3 ∙ sym h.4;
    next = h.2.0;
    helps = h.2.1;
  },
  record { files = refl; out = refl },
)
stopped_ends project p budget (Some files) out Memory kernel h = inl (record { files = refl; out = refl })
stopped_ends project p budget (Some files) out Usage kernel h = absurd h
stopped_ends project p budget (Some files) out (File f fault) kernel h = absurd h
stopped_ends project p budget (Some files) out (Shape f rows cols) kernel h = absurd h
stopped_ends project p budget (Some files) out (CostRange j) kernel h = absurd h
stopped_ends project p budget (Some files) out (UpperRange j) kernel h = absurd h
stopped_ends project p budget (Some files) out (Infeasible j) kernel h = absurd h
stopped_ends project p budget (Some files) out (NotKernel row) kernel h = absurd h
stopped_ends project p budget (Some files) out Outside kernel h = absurd h

-- ---- the steps before
planned_is : (words : List (List ℕ)) (command : Command) (files : Files) (p : Problem) → command_in words ≡ Some command →
    problem_in command.project files ≡ Ok p →
    planned words files ≡ Ok (record { project = command.project; budget = command.budget; problem = p })
planned_is words command files p e f = rw (e, f)

ends_of : (plan : Result Plan Stop) (q : Plan) (t : Traces) (result : Result Reached Stop) → plan ≡ Ok q →
    EndsWith q.project q.problem q.budget t result → Ends plan t result
ends_of plan q t (Ok r) e h = (q, e, h)
ends_of plan q t (Err (NotKernel row)) e h = (q, e, h.0, h.1)
ends_of plan q t (Err (Steps done)) e h = (q, e, h.0, h.1)
ends_of plan q t (Err Outside) e (inl h) = inl h
ends_of plan q t (Err Outside) e (inr h) = inr (q, e, h)
ends_of plan q t (Err Memory) e (inl h) = inl h
ends_of plan q t (Err Memory) e (inr h) = inr (q, e, h)
ends_of plan q t (Err Usage) e h = absurd h
ends_of plan q t (Err (File f fault)) e h = absurd h
ends_of plan q t (Err (Shape f rows cols)) e h = absurd h
ends_of plan q t (Err (CostRange j)) e h = absurd h
ends_of plan q t (Err (UpperRange j)) e h = absurd h
ends_of plan q t (Err (Infeasible j)) e h = absurd h

concluded_at : (words : List (List ℕ)) (command : Command) (p : Problem) (old new : Option Files) (out out' : Option (List ℕ)) (result : Result Reached Stop) →
    command_in words ≡ Some command →
    IfSome old (λ files. problem_in command.project files ≡ Ok p) →
    IfSome old (λ files. EndsWith command.project p command.budget
    (record { files_before = files; files_after = new; out_before = out; out_after = out' }) result) →
    IfSome old (λ files. Ends (planned words files) (record { files_before = files; files_after = new; out_before = out; out_after = out' }) result)
concluded_at words command p None new out out' result e f h = tt
concluded_at words command p (Some files) new out out' result e f h =
    ends_of (planned words files) (record { project = command.project; budget = command.budget; problem = p })
    (record { files_before = files; files_after = new; out_before = out; out_after = out' }) result (planned_is words command files p e f) h

pub ends_concluded : (words : List (List ℕ)) (command : Command) (p : Problem) (old mid new : Option Files) (out out' : Option (List ℕ))
    (result : Result Reached Stop) →
    command_in words ≡ Some command → mid ≡ old →
    IfSome old (λ files. problem_in command.project files ≡ Ok p) →
    IfSome mid (λ files. EndsWith command.project p command.budget
    (record { files_before = files; files_after = new; out_before = out; out_after = out' }) result) →
    IfSome old (λ files. Ends (planned words files) (record { files_before = files; files_after = new; out_before = out; out_after = out' }) result)
ends_concluded words command p old mid new out out' result e same f h =
    concluded_at words command p old new out out' result e f
    (subst (λ (o : Option Files). IfSome o (λ files. EndsWith command.project p command.budget
    (record { files_before = files; files_after = new; out_before = out; out_after = out' }) result)) same h)

-- ---- the line on standard error
pub said : (text : List ℕ) (old new : Option (List ℕ)) (r : Result (Unit {0}) PutEnd) → OnOk r (new ≡ append_known old text) →
    OnErr r (MayPut text old new) → MayPut text old new
said text old new (Ok u) done cut = (length text, done ∙ ap (append_known old) (sym (take_all (length text) text (le_refl (length text)))))
said text old new (Err end) done cut = cut
