-- From the walk, and from what was written and told, to the end of the run.
use Rattle.std.proofs.Common.{◌≡◌, ℕ, ◌+◌, List, [], ◌∷◌, ◌++◌, length, ap, sym, ◌∙◌, subst, inl, inr, Option, None, Some, Result, Ok, Err, codes, false, true, ap₂, ◌*◌, arith, length-append}
use Rattle.std.specs.Prelude.{ℤ, IfSome}
use Rattle.std.specs.List.{AllByRecursion, flat_map}
use Rattle.std.proofs.lemmas.List.{length-map}
use Rattle.outside.specs.Files.{Files}
use Rattle.outside.specs.Pieces.{MayPut}
use Rattle.std.proofs.lemmas.List.Concat.{flat_map-cons}
use Rattle.int_vector.specs.Range.{InRange}
use Rattle.int_vector.specs.Vectors.{IsZero}
use Rattle.mat_files.specs.Cells.{Matrix}
use Rattle.mat_files.specs.Grids.{IsMatrix}
use Rattle.mat_files.specs.Printed.{text_of}
use Rattle.solution_files.specs.Outputs.{written, MayWrite, grid_of, text_of_rows}
use Rattle.solution_files.specs.Steps.{AreRows}
use Rattle.solution_files.proofs.GridText.{text_of-rows}
use Rattle.system_files.specs.declared.systems.Shaped.{Shaped}
use Rattle.tool_frame.specs.Outputs.{Traces, IsUntouched}
use Rattle.decompose_tool.specs.declared.ends.Ending.{Ending}
use Rattle.decompose_tool.specs.declared.ends.Ending.TheVariants.{Done, Left}
use Rattle.decompose_tool.specs.declared.ends.Stop.{Stop}
use Rattle.decompose_tool.specs.declared.ends.Stop.TheVariants.{Usage, Input as BadInput, File, Shape, Row, Outside, Memory}
use Rattle.decompose_tool.specs.declared.reading.Sets.{Sets}
use Rattle.decompose_tool.specs.declared.walking.Walk.{Walk}
use Rattle.decompose_tool.specs.Ends.{row_of_term, rows_of_terms, summary_of, full_point, AreAllSound, IsWalkOf, IsDecomposed, IsCutShort, IsLeft, Cut, Published, EndsWith}
use Rattle.decompose_tool.specs.Rows.{is_zero}
use Rattle.decompose_tool.specs.Inside.Steps.{Walked, plan_of}
use Rattle.decompose_tool.proofs.Candidates.{zero_of_test, test_of_zero, each_append}
use Rattle.decompose_tool.proofs.Walks.{terms_are_below, terms_differ, nothing_fits, whole_sum}

each_long : (n : ℕ) (rows : List (List ℤ)) → AreRows n rows → AllByRecursion (λ r. length r ≡ n) rows
each_long n [] h = tt
each_long n (r ∷ rows) h = ((h.0).0, each_long n rows h.1)

module _ (project : List ℕ) (s : Shaped) (sets : Sets) (sound : AreAllSound (plan_of project s sets)) (walk : Walk) (w : Walked s sets walk) where
  walk_of : IsWalkOf (plan_of project s sets) w.candidates w.terms walk.rest.items
  walk_of = record { sound = sound; candidates_are = w.candidates_are; walk = w.walk_is }

  pub left_ends : (t : Traces) → is_zero walk.rest.items ≡ false → IsUntouched t → IsLeft (plan_of project s sets) t walk.rest.items
  left_ends t e u = record {
    candidates = w.candidates;
    terms = w.terms;
    walk = walk_of;
    nonzero = λ z. let f : is_zero walk.rest.items ≡ true = test_of_zero walk.rest.items z in cc;
    nothing_fits = nothing_fits w.candidates (full_point (plan_of project s sets)) w.terms walk.rest.items w.walk_is;
    untouched = u;
  }

  module _ (e : is_zero walk.rest.items ≡ true) where
    decomposed : IsDecomposed (plan_of project s sets) w.terms
    decomposed =
        let v = full_point (plan_of project s sets) in
        let zero : IsZero walk.rest.items = zero_of_test walk.rest.items e in record {
          candidates = w.candidates;
          left = walk.rest.items;
          walk = walk_of;
          nothing = zero;
          whole = record {
            sum = whole_sum w.candidates v w.terms walk.rest.items w.walk_is zero;
            below = terms_are_below w.candidates v w.terms walk.rest.items w.walk_is;
            differ = terms_differ w.candidates v w.terms walk.rest.items w.walk_is;
          };
        }

    module _ (grid : Matrix) (is : grid ≡ record { rows = walk.terms; cols = s.input.mat.cols + 1; cells = walk.cells.items }) where
      count_is : grid.rows ≡ length w.terms
      count_is = ap (λ m. m.rows) is ∙ w.count

      grid_is : grid ≡ grid_of (s.input.mat.cols + 1) (rows_of_terms s.input.mat.cols w.terms)
      grid_is =
          is ∙ ap (λ k. record { rows = k; cols = s.input.mat.cols + 1; cells = walk.cells.items }) (w.count ∙ sym (length-map w.terms (row_of_term s.input.mat.cols)))
          ∙ ap (λ cells. record { rows = length (rows_of_terms s.input.mat.cols w.terms); cols = s.input.mat.cols + 1; cells = cells }) w.cells

      text_is : text_of grid ≡ text_of_rows (s.input.mat.cols + 1) (rows_of_terms s.input.mat.cols w.terms)
      text_is = ap text_of grid_is ∙ text_of-rows (s.input.mat.cols + 1) (rows_of_terms s.input.mat.cols w.terms) (each_long (s.input.mat.cols + 1) (rows_of_terms s.input.mat.cols w.terms) w.rows)

      cut : (files : Files) (new : Option Files) (out out' : Option (List ℕ)) → Cut project grid (Some files) new out out' →
          IsCutShort (plan_of project s sets) (record { files_before = files; files_after = new; out_before = out; out_after = out' })
      cut files new out out' (inl c) = record {
        terms = w.terms;
        decomposed = decomposed;
        part = inl (record { files = inl (subst (λ (t : List ℕ). MayWrite (project ++ codes ".dec") t (Some files) new) text_is c.0); out = c.1 });
      }
      cut files new out out' (inr c) = record {
        terms = w.terms;
        decomposed = decomposed;
        part = inr (record {
          files = c.0 ∙ ap (λ t. Some (written (project ++ codes ".dec") t files)) text_is;
          out = subst (λ (k : ℕ). MayPut (summary_of k) out out') count_is c.1;
        });
      }

      pub published_ends : (old new : Option Files) (out out' : Option (List ℕ)) (result : Result Ending Stop) → Published project grid old new out out' result →
          IfSome old (λ files. EndsWith (plan_of project s sets) (record { files_before = files; files_after = new; out_before = out; out_after = out' }) result)
      published_ends None new out out' result p = tt
      published_ends (Some files) new out out' (Ok (Done k)) p = record {
        terms = w.terms;
        decomposed = decomposed;
        count_is = p.0 ∙ count_is;
        whole = record {
          files = p.1 ∙ ap (λ t. Some (written (project ++ codes ".dec") t files)) text_is;
          out = p.2;
        };
      }
      published_ends (Some files) new out out' (Ok (Left rest)) p = absurd p
      published_ends (Some files) new out out' (Err Outside) p = inr (cut files new out out' p)
      published_ends (Some files) new out out' (Err Memory) p = inr (cut files new out out' p)
      published_ends (Some files) new out out' (Err Usage) p = absurd p
      published_ends (Some files) new out out' (Err (BadInput fault)) p = absurd p
      published_ends (Some files) new out out' (Err (File f fault)) p = absurd p
      published_ends (Some files) new out out' (Err (Shape f r k)) p = absurd p
      published_ends (Some files) new out out' (Err (Row f r fault)) p = absurd p

  -- ---- the matrix of the terms
  flat_count : (n : ℕ) (rows : List (List ℤ)) → AreRows n rows → length (flat_map (λ r. r) rows) ≡ length rows * n
  flat_count n [] h = omega arith
  flat_count n (r ∷ rows) h = omega (arith, ap length (flat_map-cons (λ (x : List ℤ). x) r rows), length-append r (flat_map (λ x. x) rows), (h.0).0, flat_count n rows h.1)

  flat_range : (n : ℕ) (rows : List (List ℤ)) → AreRows n rows → AllByRecursion InRange (flat_map (λ r. r) rows)
  flat_range n [] h = tt
  flat_range n (r ∷ rows) h = subst (AllByRecursion InRange) (sym (flat_map-cons (λ (x : List ℤ). x) r rows)) (each_append InRange r (flat_map (λ x. x) rows) (h.0).1 (flat_range n rows h.1))

  pub is_matrix : (n : ℕ) → n ≡ s.input.mat.cols → IsMatrix walk.terms (n + 1) walk.cells.items
  is_matrix n e =
      let rows = rows_of_terms s.input.mat.cols w.terms in record {
        count = ap length w.cells ∙ flat_count (s.input.mat.cols + 1) rows w.rows ∙ ap₂ (λ a b. a * (b + 1)) (length-map w.terms (row_of_term s.input.mat.cols) ∙ sym w.count) (sym e);
        wide = omega arith;
        small = subst (AllByRecursion InRange) (sym w.cells) (flat_range (s.input.mat.cols + 1) rows w.rows);
      }
