-- When the numbers of a line are a row of a stage, and when it comes behind the rows before it.
use Rattle.std.proofs.Common.{◌≡◌, ◌<◌, ◌≤◌, ◌+◌, ◌-◌, ℕ, List, [], ◌∷◌, ◌++◌, length, take, get_or, sym, ap, subst, ◌∙◌, arith, Less}
use Rattle.std.specs.Prelude.{ℤ, pos}
use Rattle.std.specs.List.{AllByRecursion}
use Rattle.std.specs.List.Sorted.{IsStrictlySortedBy}
use Rattle.std.proofs.lemmas.List.{take_more, take_all}
use Rattle.int_vector.specs.Vectors.{dot, norm, largest}
use Rattle.lift_core.specs.Systems.{LinearSystem, ObeysCaps, ObeysSigns, Solves, row}
use Rattle.lift_core.specs.ToolSystems.{width}
use Rattle.lift_core.specs.Stages.{front, last, norm_cmp}
use Rattle.lift_core.proofs.Composition.{each_push, each_pushed}
use Rattle.lift_core.proofs.Orders.{norm_cmp_total}
use Rattle.lift_core.proofs.Stages.{front-push, last-push}
use Rattle.stage_store.specs.Stage.{IsStageRow}

-- ---- a row of numbers, cut
-- the entries but the last, and the last
pub cut_row : (z : List ℤ) (w : ℕ) → length z ≡ w + 1 → z ≡ take w z ++ (get_or z w (pos 0) ∷ [])
cut_row z w e = sym (take_all (w + 1) z (omega (arith, e))) ∙ take_more z w (pos 0) (omega (arith, e))

pub front_row : (z : List ℤ) (w : ℕ) → length z ≡ w + 1 → front z ≡ take w z
front_row z w e = ap front (cut_row z w e) ∙ front-push (take w z) (get_or z w (pos 0))

pub last_row : (z : List ℤ) (w : ℕ) → length z ≡ w + 1 → last z ≡ get_or z w (pos 0)
last_row z w e = ap last (cut_row z w e) ∙ last-push (take w z) (get_or z w (pos 0))

-- ---- a row of a stage
module _ (S : LinearSystem) (k : ℕ) (z : List ℤ) (w : ℕ) (w_is : w ≡ width S) (entries : length z ≡ width S + 1) where
  wide : length z ≡ w + 1
  wide = omega (arith, entries, w_is)

  pub makes_row : ObeysSigns S (take w z) × ObeysCaps S (take w z)
      → AllByRecursion (λ r. dot r (take w z) ≡ pos 0) (take (k - 1) S.rows)
      → dot (row S k) (take w z) ≡ get_or z w (pos 0)
      → (0 < norm (take w z)) × (norm (take w z) ≤ largest)
      → IsStageRow S k z
  makes_row obeys rows product norms = record {
    vector = record {
      part = take w z;
      member = record { signs = obeys.0; caps = obeys.1; rows = rows };
      is = cut_row z w wide ∙ ap (λ t. take w z ++ (t ∷ [])) (sym product);
    };
    positive = subst (λ x. 0 < norm x) (sym (front_row z w wide)) norms.0;
    small = subst (λ x. norm x ≤ largest) (sym (front_row z w wide)) norms.1;
    entries = entries;
  }

  part_is : (h : IsStageRow S k z) → h.vector.part ≡ take w z
  part_is h = sym (ap front h.vector.is ∙ front-push h.vector.part (dot (row S k) h.vector.part)) ∙ front_row z w wide

  solves_front : IsStageRow S k z → Solves S (k - 1) (take w z)
  solves_front h = subst (λ x. Solves S (k - 1) x) (part_is h) h.vector.member

  pub row_obeys : IsStageRow S k z → ObeysSigns S (take w z) × ObeysCaps S (take w z)
  row_obeys h = ((solves_front h).signs, (solves_front h).caps)

  pub row_solves : IsStageRow S k z → AllByRecursion (λ r. dot r (take w z) ≡ pos 0) (take (k - 1) S.rows)
  row_solves h = (solves_front h).rows

  pub row_product : IsStageRow S k z → dot (row S k) (take w z) ≡ get_or z w (pos 0)
  row_product h =
      subst (λ x. dot (row S k) x ≡ get_or z w (pos 0)) (part_is h)
      (sym (ap last h.vector.is ∙ last-push h.vector.part (dot (row S k) h.vector.part)) ∙ last_row z w wide)

  pub row_norm : IsStageRow S k z → (0 < norm (take w z)) × (norm (take w z) ≤ largest)
  row_norm h = (subst (λ x. 0 < norm x) (front_row z w wide) h.positive, subst (λ x. norm x ≤ largest) (front_row z w wide) h.small)

-- ---- one row more
behind_last : (rows : List (List ℤ)) (y z : List ℤ) → IsStrictlySortedBy norm_cmp (rows ++ y ∷ []) → norm_cmp y z ≡ Less → IsStrictlySortedBy norm_cmp ((rows ++ y ∷ []) ++ z ∷ [])
unfolding IsStrictlySortedBy
behind_last [] y z s l = ((l, tt), (tt, tt))
behind_last (x ∷ rows) y z s l = (
  each_push (λ v. norm_cmp x v ≡ Less) (rows ++ y ∷ []) z s.0 (norm_cmp_total.trans x y z (each_pushed (λ v. norm_cmp x v ≡ Less) rows y s.0).1 l),
  behind_last rows y z s.1 l,
)

before_last : (rows : List (List ℤ)) (y z : List ℤ) → IsStrictlySortedBy norm_cmp ((rows ++ y ∷ []) ++ z ∷ []) → norm_cmp y z ≡ Less
unfolding IsStrictlySortedBy
before_last [] y z s = s.0.0
before_last (x ∷ rows) y z s = before_last rows y z s.1

parted : (rows : List (List ℤ)) (n : ℕ) → length rows ≡ n + 1 → rows ≡ take n rows ++ (get_or rows n [] ∷ [])
parted rows n e = sym (take_all (n + 1) rows (omega (arith, e))) ∙ take_more rows n [] (omega (arith, e))

-- the rows ascend with z behind them where their last row is before z
pub behind_rows_last : (rows : List (List ℤ)) (n : ℕ) (z : List ℤ) → length rows ≡ n + 1 → IsStrictlySortedBy norm_cmp rows → norm_cmp (get_or rows n []) z ≡ Less → IsStrictlySortedBy norm_cmp (rows ++ z ∷ [])
behind_rows_last rows n z e s l =
    let p : rows ≡ take n rows ++ (get_or rows n [] ∷ []) = parted rows n e in
    subst (λ xs. IsStrictlySortedBy norm_cmp (xs ++ z ∷ [])) (sym p) (behind_last (take n rows) (get_or rows n []) z (subst (λ xs. IsStrictlySortedBy norm_cmp xs) p s) l)

pub last_before : (rows : List (List ℤ)) (n : ℕ) (z : List ℤ) → length rows ≡ n + 1 → IsStrictlySortedBy norm_cmp (rows ++ z ∷ []) → norm_cmp (get_or rows n []) z ≡ Less
last_before rows n z e s = before_last (take n rows) (get_or rows n []) z (subst (λ xs. IsStrictlySortedBy norm_cmp (xs ++ z ∷ [])) (parted rows n e) s)

-- one row alone ascends
pub one_ascends : (rows : List (List ℤ)) (z : List ℤ) → length rows ≡ 0 → IsStrictlySortedBy norm_cmp (rows ++ z ∷ [])
unfolding IsStrictlySortedBy
one_ascends [] z e = (tt, tt)
one_ascends (x ∷ rows) z e = absurd (omega (arith, e))
