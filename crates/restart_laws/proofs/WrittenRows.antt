-- The rows of a written restart text are read one after another.
use Rattle.std.proofs.Common.{◌≡◌, ◌<◌, ◌≤◌, ◌+◌, ℕ, List, [], ◌∷◌, ◌++◌, length, refl, sym, ap, subst, arith, append_assoc, append-nil, Less}
use Rattle.std.specs.Prelude.{ℤ, map, Ok}
use Rattle.std.specs.List.{AllByRecursion, concat}
use Rattle.std.specs.List.Sorted.{IsStrictlySortedBy}
use Rattle.int_vector.specs.Range.{InRange}
use Rattle.mat_files.specs.Texts.{line_of}
use Rattle.lift_core.specs.Systems.{ToolSystem}
use Rattle.lift_core.specs.ToolSystems.{IsToolSystem, width}
use Rattle.lift_core.specs.Stages.{norm_cmp, stage_norm}
use Rattle.stage_store.specs.Stage.{IsStageRow}
use Rattle.restart_file.specs.declared.lines.Version.TheVariants.{Second}
use Rattle.restart_file.specs.declared.dues.Due.TheVariants.{ClassesLine, ListedRow, WaitingRow, LastLine}
use Rattle.restart_file.specs.Texts.{Progress}
use Rattle.restart_file.specs.Reading.{Cursor, Follows, IsLine, IsRow, ReadsToEnd, at, listed_due, reads_on, waiting_due}
use Rattle.restart_laws.proofs.WrittenLines.{cells_line}

-- from any line on, the bytes are read to this progress
abbrev pub ReadsAll : ToolSystem → Cursor → List ℕ → Progress → Type 0
ReadsAll S c bytes p = (l : ℕ) → ReadsToEnd S c l bytes (Ok p)

pub step_back : (S : ToolSystem) (c next : Cursor) (line : List ℕ) (lines : List (List ℕ))
    (tail : List ℕ) (p : Progress)
    → IsLine line → Follows S c.version c.due c.so_far line next
    → ReadsAll S next (concat lines ++ tail) p → ReadsAll S c (concat (line ∷ lines) ++ tail) p
step_back S c next line lines tail p h f r l =
    reads_on h (append_assoc line (concat lines) tail) f (r (l + 1))

front_ascends : (xs ys : List (List ℤ))
    → IsStrictlySortedBy norm_cmp (xs ++ ys) → IsStrictlySortedBy norm_cmp xs
unfolding IsStrictlySortedBy
front_ascends [] ys s = tt
front_ascends (x ∷ xs) ys s = (front_all xs ys s.0, front_ascends xs ys s.1)
  where
    front_all : (us vs : List (List ℤ)) → AllByRecursion (λ y. norm_cmp x y ≡ Less) (us ++ vs)
        → AllByRecursion (λ y. norm_cmp x y ≡ Less) us
    front_all [] vs h = tt
    front_all (u ∷ us) vs h = (h.0, front_all us vs h.1)

-- rows of numbers in range
abbrev pub AreInRange : List (List ℤ) → Type 0
AreInRange rows = AllByRecursion (λ z. AllByRecursion InRange z) rows

row_there : (S : ToolSystem) (z : List ℤ) → length z ≡ width S.equations + 1
    → AllByRecursion InRange z → IsRow S (line_of z) z
row_there S z n r = record { entries = n; range = r; written = refl }

pub row_line_made : (S : ToolSystem) (z : List ℤ) → IsToolSystem S
    → length z ≡ width S.equations + 1 → AllByRecursion InRange z → IsLine (line_of z)
row_line_made S z fits n r = cells_line [] z tt (omega arith) r (omega (arith, n, fits.most_width))

-- the progress whose listed rows are these, and no row waits
abbrev pub listed_at : ℕ → ℕ → ℕ → List (List ℤ) → Progress
listed_at k d u listed = record { number = k; norm = d; used = u; listed = listed; waiting = [] }

-- the progress with these listed rows, whose waiting rows are these
abbrev pub waiting_at : ℕ → ℕ → ℕ → List (List ℤ) → List (List ℤ) → Progress
waiting_at k d u listed waiting =
    record { number = k; norm = d; used = u; listed = listed; waiting = waiting }

-- ---- the rows `todo` are to come behind the rows `done`
module _ (S : ToolSystem) (k d u : ℕ) (tail : List ℕ) (p : Progress) (fits : IsToolSystem S) where
  pub waiting_back : (listed done todo : List (List ℤ))
      → IsStrictlySortedBy norm_cmp (done ++ todo)
      → AllByRecursion (IsStageRow S.equations k) todo
      → AllByRecursion (λ z. d < stage_norm z) todo
      → AreInRange todo
      → ReadsAll S (at Second LastLine (waiting_at k d u listed (done ++ todo))) tail p
      → ReadsAll S (at Second (waiting_due (length todo)) (waiting_at k d u listed done))
      (concat (map line_of todo) ++ tail) p
  waiting_back listed done [] order rows norms range r =
      subst (λ w. ReadsAll S (at Second LastLine (waiting_at k d u listed w)) tail p)
      (append-nil done) r
  waiting_back listed done (z ∷ todo) order rows norms range r =
      let whole : (done ++ z ∷ []) ++ todo ≡ done ++ (z ∷ todo) = append_assoc done (z ∷ []) todo in
      let ascends : IsStrictlySortedBy norm_cmp ((done ++ z ∷ []) ++ todo) =
      subst (λ (w : List (List ℤ)). IsStrictlySortedBy norm_cmp w) (sym whole) order in
      step_back S (at Second (WaitingRow (length (z ∷ todo))) (waiting_at k d u listed done))
      (at Second (waiting_due (length todo)) (waiting_at k d u listed (done ++ z ∷ [])))
      (line_of z) (map line_of todo) tail p
      (row_line_made S z fits rows.0.entries range.0) (
        z,
        row_there S z rows.0.entries range.0,
        rows.0,
        record { ascends = front_ascends (done ++ z ∷ []) todo ascends; above = norms.0 },
        ap (λ n. at Second (waiting_due n) (waiting_at k d u listed (done ++ z ∷ []))) (omega arith),
      )
      (waiting_back listed (done ++ z ∷ []) todo ascends rows.1 norms.1 range.1
      (subst (λ w. ReadsAll S (at Second LastLine (waiting_at k d u listed w)) tail p)
      (sym whole) r))

  pub listed_back : (done todo : List (List ℤ)) (others : List (List ℕ))
      → IsStrictlySortedBy norm_cmp (done ++ todo)
      → AllByRecursion (IsStageRow S.equations k) todo
      → AllByRecursion (λ z. stage_norm z ≤ d) todo
      → AreInRange todo
      → ReadsAll S (at Second ClassesLine (listed_at k d u (done ++ todo)))
      (concat others ++ tail) p
      → ReadsAll S (at Second (listed_due Second (length todo)) (listed_at k d u done))
      (concat (map line_of todo ++ others) ++ tail) p
  listed_back done [] others order rows norms range r =
      subst (λ (w : List (List ℤ)). ReadsAll S (at Second ClassesLine (listed_at k d u w))
      (concat others ++ tail) p) (append-nil done) r
  listed_back done (z ∷ todo) others order rows norms range r =
      let whole : (done ++ z ∷ []) ++ todo ≡ done ++ (z ∷ todo) = append_assoc done (z ∷ []) todo in
      let ascends : IsStrictlySortedBy norm_cmp ((done ++ z ∷ []) ++ todo) =
      subst (λ (w : List (List ℤ)). IsStrictlySortedBy norm_cmp w) (sym whole) order in
      step_back S (at Second (ListedRow (length (z ∷ todo))) (listed_at k d u done))
      (at Second (listed_due Second (length todo)) (listed_at k d u (done ++ z ∷ [])))
      (line_of z) (map line_of todo ++ others) tail p
      (row_line_made S z fits rows.0.entries range.0) (
        z,
        row_there S z rows.0.entries range.0,
        rows.0,
        record { ascends = front_ascends (done ++ z ∷ []) todo ascends; closed = norms.0 },
        ap (λ n. at Second (listed_due Second n) (listed_at k d u (done ++ z ∷ []))) (omega arith),
      )
      (listed_back (done ++ z ∷ []) todo others ascends rows.1 norms.1 range.1
      (subst (λ (w : List (List ℤ)). ReadsAll S (at Second ClassesLine (listed_at k d u w))
      (concat others ++ tail) p) (sym whole) r))
