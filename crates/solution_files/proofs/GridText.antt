-- The text of a grid of rows has a line for each row.
use Rattle.std.proofs.Common.{◌≡◌, ℕ, List, [], ◌∷◌, ◌++◌, length, drop, refl, ap, ◌∙◌}
use Rattle.std.specs.Prelude.{ℤ}
use Rattle.std.specs.List.{flat_map, AllByRecursion}
use Rattle.std.proofs.lemmas.List.{take_at, drop_at}
use Rattle.mat_files.specs.Texts.{line_of, head_of}
use Rattle.mat_files.specs.Printed.{lines_of, text_of}
use Rattle.solution_files.specs.Outputs.{grid_of, text_of_rows}

lines_of-rows : (n : ℕ) (rows : List (List ℤ)) → AllByRecursion (λ row. length row ≡ n) rows → lines_of (length rows) n (flat_map (λ row. row) rows) ≡ flat_map line_of rows
lines_of-rows n [] h = refl
lines_of-rows n (row ∷ rows) h =
    ap (λ x. line_of x ++ lines_of (length rows) n (drop n (row ++ flat_map (λ r. r) rows))) (take_at row (flat_map (λ r. r) rows) n h.0)
    ∙ ap (λ x. line_of row ++ lines_of (length rows) n x) (drop_at row (flat_map (λ r. r) rows) n h.0)
    ∙ ap (λ x. line_of row ++ x) (lines_of-rows n rows h.1)

-- the text of a grid of rows is the text of the rows
pub text_of-rows : (n : ℕ) (rows : List (List ℤ)) → AllByRecursion (λ row. length row ≡ n) rows → text_of (grid_of n rows) ≡ text_of_rows n rows
text_of-rows n rows h = ap (λ lines. head_of (length rows) n ++ lines) (lines_of-rows n rows h)
