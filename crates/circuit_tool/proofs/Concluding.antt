-- From what was written and told to the end of the run.
use Rattle.std.proofs.Common.{◌≡◌, ℕ, List, ◌++◌, length, ap, sym, ◌∙◌, subst, inl, inr, Option, None, Some, Result, Ok, Err, codes}
use Rattle.std.specs.Prelude.{ℤ, IfSome, OnOk, OnErr}
use Rattle.std.proofs.Common.{le_refl}
use Rattle.std.proofs.lemmas.List.{take_all}
use Rattle.outside.specs.declared.ends.PutEnd.{PutEnd}
use Rattle.std.specs.List.{AllByRecursion}
use Rattle.std.specs.Io.KnownBytes.{append_known}
use Rattle.outside.specs.Files.{Files}
use Rattle.outside.specs.Pieces.{MayPut}
use Rattle.mat_files.specs.Cells.{Matrix}
use Rattle.mat_files.specs.Printed.{text_of}
use Rattle.solution_files.specs.Outputs.{written, MayWrite, grid_of, text_of_rows}
use Rattle.solution_files.proofs.GridText.{text_of-rows}
use Rattle.system_files.specs.Kernel.{rows_in}
use Rattle.tool_frame.specs.Outputs.{Traces}
use Rattle.circuit_tool.specs.declared.ends.Stop.{Stop}
use Rattle.circuit_tool.specs.declared.ends.Stop.TheVariants.{Usage, File, Shape, NotKernel, Outside, Memory}
use Rattle.circuit_tool.specs.declared.reading.Sets.{Sets}
use Rattle.circuit_tool.specs.Circuits.{AreLeastRows}
use Rattle.circuit_tool.specs.Sets.{Plan, project_in, sets_in, planned}
use Rattle.circuit_tool.specs.Ends.{summary_of, AreInKernel, IsCutShort, Cut, Published, EndsWith, Ends}

module _ (project : List ℕ) (sets : Sets) (rows : List (List ℤ)) (grid : Matrix) (kernel : AreInKernel sets) (least : AreLeastRows (rows_in sets.set) rows)
    (long : AllByRecursion (λ r. length r ≡ sets.set.cols) rows) (even : sets.mat.cols ≡ sets.set.cols) (is : grid ≡ grid_of sets.set.cols rows) where
  text_is : text_of grid ≡ text_of_rows sets.mat.cols rows
  text_is = ap text_of is ∙ text_of-rows sets.set.cols rows long ∙ ap (λ n. text_of_rows n rows) (sym even)

  count_is : grid.rows ≡ length rows
  count_is = ap (λ m. m.rows) is

  cut : (files : Files) (new : Option Files) (out out' : Option (List ℕ)) → Cut project grid (Some files) new out out' →
      IsCutShort project sets (record { files_before = files; files_after = new; out_before = out; out_after = out' })
  cut files new out out' (inl c) = record {
    kernel = kernel;
    rows = rows;
    least = least;
    part = inl (record { files = inl (subst (λ (t : List ℕ). MayWrite (project ++ codes ".cir") t (Some files) new) text_is c.0); out = c.1 });
  }
  cut files new out out' (inr c) = record {
    kernel = kernel;
    rows = rows;
    least = least;
    part = inr (record {
      files = c.0 ∙ ap (λ t. Some (written (project ++ codes ".cir") t files)) text_is;
      out = subst (λ (n : ℕ). MayPut (summary_of n) out out') count_is c.1;
    });
  }

  pub published_ends : (old new : Option Files) (out out' : Option (List ℕ)) (result : Result ℕ Stop) → Published project grid old new out out' result →
      IfSome old (λ files. EndsWith project sets (record { files_before = files; files_after = new; out_before = out; out_after = out' }) result)
  published_ends None new out out' result p = tt
  published_ends (Some files) new out out' (Ok n) p = record {
    kernel = kernel;
    rows = rows;
    least = least;
    count = p.0 ∙ count_is;
    whole = record {
      files = p.1 ∙ ap (λ t. Some (written (project ++ codes ".cir") t files)) text_is;
      out = p.2;
    };
  }
  published_ends (Some files) new out out' (Err Outside) p = inr (cut files new out out' p)
  published_ends (Some files) new out out' (Err Memory) p = inr (cut files new out out' p)
  published_ends (Some files) new out out' (Err Usage) p = absurd p
  published_ends (Some files) new out out' (Err (File f fault)) p = absurd p
  published_ends (Some files) new out out' (Err (Shape r c)) p = absurd p
  published_ends (Some files) new out out' (Err (NotKernel r)) p = absurd p

-- ---- the steps before
planned_is : (words : List (List ℕ)) (project : List ℕ) (files : Files) (read : Result Sets Stop) → project_in words ≡ Some project → sets_in project files ≡ read →
    planned words files ≡ (elim read as (λ _. Result Plan Stop) [ Ok sets ↦ Ok (record { project = project; sets = sets }) | Err stop ↦ Err stop ])
planned_is words project files (Ok sets) e f = rw (e, f)
planned_is words project files (Err stop) e f = rw (e, f)

ends_of : (plan : Result Plan Stop) (project : List ℕ) (sets : Sets) (t : Traces) (result : Result ℕ Stop) → plan ≡ Ok (record { project = project; sets = sets }) → EndsWith project sets t result → Ends plan t result
ends_of plan project sets t (Ok n) e h = (record { project = project; sets = sets }, e, h)
ends_of plan project sets t (Err (NotKernel row)) e h = (record { project = project; sets = sets }, e, h.0, h.1)
ends_of plan project sets t (Err Outside) e (inl h) = inl h
ends_of plan project sets t (Err Outside) e (inr h) = inr (record { project = project; sets = sets }, e, h)
ends_of plan project sets t (Err Memory) e (inl h) = inl h
ends_of plan project sets t (Err Memory) e (inr h) = inr (record { project = project; sets = sets }, e, h)
ends_of plan project sets t (Err Usage) e h = absurd h
ends_of plan project sets t (Err (File f fault)) e h = absurd h
ends_of plan project sets t (Err (Shape rows cols)) e h = absurd h

concluded_at : (words : List (List ℕ)) (project : List ℕ) (sets : Sets) (old new : Option Files) (out out' : Option (List ℕ)) (result : Result ℕ Stop) → project_in words ≡ Some project →
    IfSome old (λ files. sets_in project files ≡ Ok sets) →
    IfSome old (λ files. EndsWith project sets (record { files_before = files; files_after = new; out_before = out; out_after = out' }) result) →
    IfSome old (λ files. Ends (planned words files) (record { files_before = files; files_after = new; out_before = out; out_after = out' }) result)
concluded_at words project sets None new out out' result e f h = tt
concluded_at words project sets (Some files) new out out' result e f h =
    ends_of (planned words files) project sets (record { files_before = files; files_after = new; out_before = out; out_after = out' }) result (planned_is words project files (Ok sets) e f) h

pub ends_concluded : (words : List (List ℕ)) (project : List ℕ) (sets : Sets) (old mid new : Option Files) (out out' : Option (List ℕ)) (result : Result ℕ Stop) → project_in words ≡ Some project → mid ≡ old →
    IfSome old (λ files. sets_in project files ≡ Ok sets) →
    IfSome mid (λ files. EndsWith project sets (record { files_before = files; files_after = new; out_before = out; out_after = out' }) result) →
    IfSome old (λ files. Ends (planned words files) (record { files_before = files; files_after = new; out_before = out; out_after = out' }) result)
ends_concluded words project sets old mid new out out' result e same f h =
    concluded_at words project sets old new out out' result e f
    (subst (λ (o : Option Files). IfSome o (λ files. EndsWith project sets (record { files_before = files; files_after = new; out_before = out; out_after = out' }) result)) same h)

-- ---- the line on standard error
pub said : (text : List ℕ) (old new : Option (List ℕ)) (r : Result (Unit {0}) PutEnd) → OnOk r (new ≡ append_known old text) → OnErr r (MayPut text old new) → MayPut text old new
said text old new (Ok u) done cut = (length text, done ∙ ap (append_known old) (sym (take_all (length text) text (le_refl (length text)))))
said text old new (Err end) done cut = cut
