-- Paths: one step more, what stays the same along them, and where they end.
use Rattle.std.proofs.Common.{◌≡◌, ℕ, ◌+◌, ◌*◌, ◌≤◌, List, [], ◌∷◌, ◌++◌, length, refl, ap, sym, ◌∙◌, subst, arith, append_assoc, length-append}
use Rattle.std.specs.Prelude.{ℤ, pos, ◌+ℤ◌, ◌*ℤ◌, ◌≤ℤ◌}
use Rattle.std.specs.List.{AllByRecursion, flat_map}
use Rattle.std.proofs.lemmas.Int.{ints}
use Rattle.std.proofs.lemmas.List.Elements.{length_all_zip, recursion_from_All}
use Rattle.int_vector.specs.Range.{InRange}
use Rattle.int_vector.specs.Vectors.{dot, norm}
use Rattle.int_vector.specs.Operations.{add}
use Rattle.int_vector.proofs.Vectors.{dot-add}
use Rattle.lift_core.specs.Lists.{cut_rows}
use Rattle.lift_core.proofs.Cells.{cut_rows-lengths}
use Rattle.system_files.specs.Kernel.{rows_in, IsInKernel, IsKernelRow}
use Rattle.system_files.proofs.Negatives.{length-negated}
use Rattle.system_files.proofs.Kernels.{kernel_negated}
use Rattle.climb_tool.specs.declared.problems.Problem.{Problem}
use Rattle.climb_tool.specs.Paths.{IsWithinBounds, times, candidates, NoneHelps, IsFirstToHelp, IsGreatest, Step, step_rows, after_step}
use Rattle.climb_tool.specs.Paths.{IsStep, IsPath, IsFalling}
use Rattle.climb_tool.specs.Problems.{IsProblem}
use Rattle.climb_tool.specs.Ends.{AreInKernel, IsClimb}
use Rattle.climb_tool.specs.declared.climbing.Path.{Path}
use Rattle.climb_tool.specs.Inside.Walks.{IsWalk, IsWalked}
use Rattle.climb_tool.proofs.Entries.{length-times, norm_in_range, within_small}
use Rattle.climb_tool.proofs.Optimal.{dot-times, cost_falls, stuck_is_optimal}

-- ---- one step more
pub path_more : (upper cost : List ℤ) (set : List (List ℤ)) (x : List ℤ) (steps : List Step) (y z : List ℤ) (s : Step) →
    IsPath upper cost set x steps y → IsStep upper cost set y s → z ≡ after_step y s →
    IsPath upper cost set x (steps ++ (s ∷ [])) z
path_more upper cost set x [] y z s p step e = (subst (λ (w : List ℤ). IsStep upper cost set w s) (sym p) step, ap (λ w. after_step w s) p ∙ sym e)
path_more upper cost set x (t ∷ steps) y z s p step e = (p.0, path_more upper cost set (after_step x t) steps y z s p.1 step e)

pub rows_more : (steps : List Step) (s : Step) → step_rows (steps ++ (s ∷ [])) ≡ step_rows steps ++ ((pos s.count ∷ s.by) ∷ [])
rows_more [] s = refl
rows_more (t ∷ steps) s = ap (λ r. (pos t.count ∷ t.by) ∷ r) (rows_more steps s)

append_nothing : (v : List ℤ) → v ++ [] ≡ v
append_nothing [] = refl
append_nothing (x ∷ v) = ap (λ w. x ∷ w) (append_nothing v)

flat_more : (rows : List (List ℤ)) (r : List ℤ) → flat_map (λ row. row) (rows ++ (r ∷ [])) ≡ flat_map (λ row. row) rows ++ r
flat_more [] r = append_nothing r
flat_more (q ∷ rows) r = ap (λ t. q ++ t) (flat_more rows r) ∙ sym (append_assoc q (flat_map (λ row. row) rows) r)

pub cells_more : (steps : List Step) (s : Step) (cells more : List ℤ) → cells ≡ flat_map (λ row. row) (step_rows steps) →
    more ≡ cells ++ (pos s.count ∷ s.by) →
    more ≡ flat_map (λ row. row) (step_rows (steps ++ (s ∷ [])))
cells_more steps s cells more e f =
    f ∙ ap (λ c. c ++ (pos s.count ∷ s.by)) e ∙ sym (ap (flat_map (λ row. row)) (rows_more steps s) ∙ flat_more (step_rows steps) (pos s.count ∷ s.by))

pub one_cell : (v : List ℤ) → v ≡ flat_map (λ row. row) (v ∷ [])
one_cell v = sym (append_nothing v)

pub length_more : (steps : List Step) (s : Step) → length (steps ++ (s ∷ [])) ≡ length steps + 1
length_more [] s = refl
length_more (t ∷ steps) s = omega (arith, length_more steps s)

each_more : (n : ℕ) (rows : List (List ℤ)) (r : List ℤ) → AllByRecursion (λ row. length row ≡ n) rows → length r ≡ n →
    AllByRecursion (λ row. length row ≡ n) (rows ++ (r ∷ []))
each_more n [] r h e = (e, tt)
each_more n (q ∷ rows) r h e = (h.0, each_more n rows r h.1 e)

pub lengths_more : (n : ℕ) (steps : List Step) (s : Step) → AllByRecursion (λ row. length row ≡ n + 1) (step_rows steps) → length s.by ≡ n →
    AllByRecursion (λ row. length row ≡ n + 1) (step_rows (steps ++ (s ∷ [])))
lengths_more n steps s h e =
    subst (AllByRecursion (λ row. length row ≡ n + 1)) (sym (rows_more steps s)) (each_more (n + 1) (step_rows steps) (pos s.count ∷ s.by) h (omega (arith, e)))

pub small-append : (P : ℤ → Type 0) (xs ys : List ℤ) → AllByRecursion P xs → AllByRecursion P ys → AllByRecursion P (xs ++ ys)
small-append P [] ys h k = k
small-append P (x ∷ xs) ys h k = (h.0, small-append P xs ys h.1 k)

-- ---- what is true of each row and its negative is true of the first that helps
at_place : (P : List ℤ → Type 0) (before after : List (List ℤ)) (g : List ℤ) → AllByRecursion P (before ++ (g ∷ after)) → P g
at_place P [] after g h = h.0
at_place P (b ∷ before) after g h = at_place P before after g h.1

first_has : (P : List ℤ → Type 0) (upper cost x : List ℤ) (vectors : List (List ℤ)) (g : List ℤ) → AllByRecursion P vectors →
    IsFirstToHelp upper cost x vectors g → P g
first_has P upper cost x vectors g h f = at_place P f.before f.after g (subst (AllByRecursion P) f.place h)

candidates_long : (n : ℕ) (set : List (List ℤ)) → AllByRecursion (λ g. length g ≡ n) set → AllByRecursion (λ g. length g ≡ n) (candidates set)
candidates_long n [] h = tt
candidates_long n (g ∷ set) h = (h.0, (length-negated g ∙ h.0, candidates_long n set h.1))

candidates_kernel : (rows set : List (List ℤ)) → AllByRecursion (IsKernelRow rows) set → AllByRecursion (IsInKernel rows) (candidates set)
candidates_kernel rows [] h = tt
candidates_kernel rows (g ∷ set) h = (h.0.kernel, (kernel_negated rows g h.0.kernel, candidates_kernel rows set h.1))

within_long : (upper x : List ℤ) → IsWithinBounds upper x → length upper ≡ length x
within_long upper x h = length_all_zip (λ u a. (pos 0 ≤ℤ a) × (a ≤ℤ u)) upper x h

-- ---- along a path
no_change : (p q : ℤ) (c : ℕ) → q ≡ pos 0 → p +ℤ (pos c *ℤ q) ≡ p
no_change p q c e = ap (λ z. p +ℤ (pos c *ℤ z)) e ∙ nothing p c where
  nothing : (p : ℤ) (c : ℕ) → p +ℤ (pos c *ℤ pos 0) ≡ p
  nothing p c = grind (arith, ints)

same_after : (rows : List (List ℤ)) (x g : List ℤ) (c : ℕ) → length x ≡ length g → IsInKernel rows g →
    AllByRecursion (λ r. dot r (add x (times c g)) ≡ dot r x) rows
same_after [] x g c l k = tt
same_after (r ∷ rows) x g c l k = (
  dot-add r x (times c g) (l ∙ sym (length-times c g)) ∙ ap (λ p. dot r x +ℤ p) (dot-times c r g) ∙ no_change (dot r x)
      (dot r g) c k.0,
  same_after rows x g c l k.1,
)

same_through : (rows : List (List ℤ)) (x y z : List ℤ) → AllByRecursion (λ r. dot r y ≡ dot r x) rows →
    AllByRecursion (λ r. dot r z ≡ dot r y) rows → AllByRecursion (λ r. dot r z ≡ dot r x) rows
same_through [] x y z h k = tt
same_through (r ∷ rows) x y z h k = (k.0 ∙ h.0, same_through rows x y z h.1 k.1)

same_back : (rows : List (List ℤ)) (x y z : List ℤ) → AllByRecursion (λ r. dot r y ≡ dot r x) rows →
    AllByRecursion (λ r. dot r z ≡ dot r x) rows → AllByRecursion (λ r. dot r z ≡ dot r y) rows
same_back [] x y z h k = tt
same_back (r ∷ rows) x y z h k = (k.0 ∙ sym h.0, same_back rows x y z h.1 k.1)

same_here : (rows : List (List ℤ)) (x y : List ℤ) → x ≡ y → AllByRecursion (λ r. dot r y ≡ dot r x) rows
same_here [] x y e = tt
same_here (r ∷ rows) x y e = (ap (dot r) (sym e), same_here rows x y e)

module _ (n : ℕ) (upper cost : List ℤ) (rows set : List (List ℤ)) (long : AllByRecursion (λ g. length g ≡ n) set) (bounds : length upper ≡ n) where
  step_long : (x : List ℤ) (s : Step) → IsStep upper cost set x s → length s.by ≡ n
  step_long x s step = first_has (λ g. length g ≡ n) upper cost x (candidates set) s.by (candidates_long n set long) step.first

  after_long : (x : List ℤ) (s : Step) → IsStep upper cost set x s → length (after_step x s) ≡ n
  after_long x s step = sym (within_long upper (after_step x s) step.greatest.within) ∙ bounds

  falls : (x : List ℤ) (steps : List Step) (y : List ℤ) → length x ≡ n → IsPath upper cost set x steps y → IsFalling cost x steps
  falls x [] y l p = tt
  falls x (s ∷ steps) y l p = (cost_falls upper cost x set s (step_long x s p.0 ∙ sym l) p.0, falls (after_step x s) steps y (after_long x s p.0) p.1)

  same_along : AllByRecursion (IsKernelRow rows) set → (x : List ℤ) (steps : List Step) (y : List ℤ) → length x ≡ n →
      IsPath upper cost set x steps y → AllByRecursion (λ r. dot r y ≡ dot r x) rows
  same_along kernel x [] y l p = same_here rows x y p
  same_along kernel x (s ∷ steps) y l p =
      same_through rows x (after_step x s) y
      (same_after rows x s.by s.count (l ∙ sym (step_long x s p.0)) (first_has (IsInKernel rows) upper cost x (candidates set) s.by
      (candidates_kernel rows set kernel) p.0.first))
      (same_along kernel (after_step x s) steps y (after_long x s p.0) p.1)

-- ---- the path of a problem
pub rows_long : (m w : ℕ) (cells : List ℤ) → length cells ≡ m * w → AllByRecursion (λ r. length r ≡ w) (cut_rows m w cells)
rows_long m w cells e = recursion_from_All (λ r. length r ≡ w) (cut_rows m w cells) (cut_rows-lengths m w cells e)

pub is_climb : (p : Problem) (budget : ℕ) (steps : List Step) (point : List ℤ) → IsProblem p → AreInKernel p →
    IsPath p.upper.cells p.cost.cells (rows_in p.set) p.start.cells steps point →
    IsWithinBounds p.upper.cells point → NoneHelps p.upper.cells p.cost.cells point (candidates (rows_in p.set)) →
    length steps ≤ budget → IsClimb p budget steps point
is_climb p budget steps point h kernel path within stuck few =
    let long : AllByRecursion (λ g. length g ≡ p.mat.cols) (rows_in p.set) =
    subst (λ (n : ℕ). AllByRecursion (λ g. length g ≡ n) (rows_in p.set)) (sym h.shapes.set) (rows_long p.set.rows p.set.cols p.set.cells h.shapes.rows) in
    let start : length p.start.cells ≡ p.mat.cols = h.shapes.start in
    let same : AllByRecursion (λ r. dot r point ≡ dot r p.start.cells) (rows_in p.mat) =
    same_along p.mat.cols p.upper.cells p.cost.cells (rows_in p.mat) (rows_in p.set) long h.shapes.upper kernel p.start.cells steps point start path in record {
      kernel = kernel;
      path = path;
      few = few;
      stuck = stuck;
      falls = falls p.mat.cols p.upper.cells p.cost.cells (rows_in p.mat) (rows_in p.set) long h.shapes.upper p.start.cells steps point start path;
      optimal = λ basis. record {
        within = within;
        same = same;
        least = λ z w e.
            stuck_is_optimal p.mat (rows_in p.set) p.upper.cells p.cost.cells point basis h.shapes.upper within stuck z w
            (same_back (rows_in p.mat) p.start.cells point z same e);
      };
    }

pub point_long : (p : Problem) (point : List ℤ) → IsProblem p → IsWithinBounds p.upper.cells point → length point ≡ p.mat.cols
point_long p point h within = sym (within_long p.upper.cells point within) ∙ h.shapes.upper

pub point_norm : (p : Problem) (point : List ℤ) → IsProblem p → IsWithinBounds p.upper.cells point → norm point ≤ 590295810358705651712
point_norm p point h within =
    omega (arith, norm_in_range point (within_small p.upper.cells point h.shapes.range within), point_long p point h within, h.few)

-- one step more of a walk
pub walk_more : (p : Problem) (old new : Path) (steps : List Step) (g : List ℤ) (n : ℕ) → IsProblem p → IsWalk p steps old →
    length g ≡ p.mat.cols → AllByRecursion InRange g → n ≤ 9223372036854775807 →
    IsFirstToHelp p.upper.cells p.cost.cells old.point.items (candidates (rows_in p.set)) g → IsGreatest p.upper.cells old.point.items g n →
    new.point.items ≡ add old.point.items (times n g) → new.cells.items ≡ old.cells.items ++ (pos n ∷ g) → new.count ≡ old.count + 1 → IsWalked p new
walk_more p old new steps g n h w long range small first greatest point cells count =
    let s : Step = record { count = n; by = g } in (
      steps ++ (s ∷ []),
      record {
        leads = path_more p.upper.cells p.cost.cells (rows_in p.set) p.start.cells steps old.point.items new.point.items s w.leads
            (record { first = first; greatest = greatest }) point;
        within = subst (IsWithinBounds p.upper.cells) (sym point) greatest.within;
        cells = cells_more steps s old.cells.items new.cells.items w.cells cells;
        count = count ∙ omega (arith, w.count, length_more steps s);
        lengths = lengths_more p.mat.cols steps s w.lengths long;
        small = subst (AllByRecursion InRange) (sym cells) (small-append InRange old.cells.items (pos n ∷ g) w.small (small, range));
      },
    )

flat_length : (n : ℕ) (rows : List (List ℤ)) → AllByRecursion (λ row. length row ≡ n) rows → length (flat_map (λ row. row) rows) ≡ length rows * n
flat_length n [] h = omega arith
flat_length n (r ∷ rows) h = length-append r (flat_map (λ row. row) rows) ∙ omega (arith, h.0, flat_length n rows h.1)

length-step_rows : (steps : List Step) → length (step_rows steps) ≡ length steps
length-step_rows [] = refl
length-step_rows (s ∷ steps) = omega (arith, length-step_rows steps)

pub cells_count : (p : Problem) (steps : List Step) (path : Path) → IsWalk p steps path → length path.cells.items ≡ path.count * (p.mat.cols + 1)
cells_count p steps path w =
    ap length w.cells ∙ flat_length (p.mat.cols + 1) (step_rows steps) w.lengths ∙ ap (λ k. k * (p.mat.cols + 1)) (length-step_rows steps ∙ sym w.count)
