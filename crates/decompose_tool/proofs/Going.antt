-- The walk goes on: past a candidate, with it, and over one list of candidates after another.
use Rattle.std.proofs.Common.{◌≡◌, ℕ, zero, suc, ◌+◌, ◌≤◌, List, [], ◌∷◌, ◌++◌, length, take, refl, ap, sym, ◌∙◌, subst, inl, inr, arith, true, false, append_assoc, append-nil, length-append, length-take}
use Rattle.std.specs.Prelude.{ℤ, pos, nat_abs}
use Rattle.std.specs.List.{AllByRecursion, flat_map}
use Rattle.std.proofs.lemmas.Grind.{flat_map-append}
use Rattle.std.proofs.lemmas.List.{map-append}
use Rattle.int_vector.specs.Range.{InRange}
use Rattle.int_vector.specs.Operations.{subtract}
use Rattle.int_vector.specs.Vectors.{◌⊑◌, largest}
use Rattle.int_vector.proofs.Vectors.{length-below, difference_below}
use Rattle.solution_files.specs.Steps.{AreRows}
use Rattle.decompose_tool.specs.declared.walking.Walk.{Walk}
use Rattle.decompose_tool.specs.Ends.{row_of_term, rows_of_terms}
use Rattle.decompose_tool.specs.Rows.{is_zero, unless_zero}
use Rattle.decompose_tool.specs.Walks.{times, IsMost, Term}
use Rattle.decompose_tool.specs.Inside.Steps.{cells_of, HasRest, WalksOn}
use Rattle.decompose_tool.proofs.Walks.{walk_append}
use Rattle.decompose_tool.proofs.Candidates.{kept_vector, dropped_vector, each_append}

pub goes_nowhere : (n : ℕ) (w : Walk) → WalksOn n [] w w
goes_nowhere n w = record { terms = []; walk = (refl, refl); rows = tt; cells = sym (append-nil w.cells.items); count = omega arith }

pub goes_past : (n : ℕ) (u : List ℤ) (w : Walk) → is_zero u ≡ true → WalksOn n (unless_zero u) w w
goes_past n u w e = subst (λ (us : List (List ℤ)). WalksOn n us w w) (sym (dropped_vector u e)) (goes_nowhere n w)

pub goes_by : (n : ℕ) (u : List ℤ) (w : Walk) → is_zero u ≡ false → IsMost u w.rest.items 0 → WalksOn n (unless_zero u) w w
goes_by n u w e m =
    subst (λ (us : List (List ℤ)). WalksOn n us w w) (sym (kept_vector u e))
    (record { terms = []; walk = inl (m, (refl, refl)); rows = tt; cells = sym (append-nil w.cells.items); count = omega arith })

range_taken : (n : ℕ) (u : List ℤ) → AllByRecursion InRange u → AllByRecursion InRange (take n u)
range_taken zero u h = tt
range_taken (suc n) [] h = tt
range_taken (suc n) (x ∷ u) h = (h.0, range_taken n u h.1)

term_row : (n c : ℕ) (u : List ℤ) → c ≤ largest → n ≤ length u → AllByRecursion InRange u → AreRows (n + 1) (rows_of_terms n (record { count = c; vector = u } ∷ []))
term_row n c u small l r = ((omega (arith, length-take n u), (small, range_taken n u r)), tt)

pub goes_with : (n c : ℕ) (u : List ℤ) (old new : Walk) → is_zero u ≡ false → IsMost u old.rest.items c → 1 ≤ c → c ≤ largest → n ≤ length u → AllByRecursion InRange u →
    new.rest.items ≡ subtract old.rest.items (times c u) → new.cells.items ≡ (old.cells.items ++ pos c ∷ []) ++ take n u → new.terms ≡ old.terms + 1 → WalksOn n (unless_zero u) old new
goes_with n c u old new e m some small l range rest cells count =
    subst (λ (us : List (List ℤ)). WalksOn n us old new) (sym (kept_vector u e))
    (record {
      terms = record { count = c; vector = u } ∷ [];
      walk = inr (c, [], some, m, refl, (refl, sym rest));
      rows = term_row n c u small l range;
      cells = cells ∙ append_assoc old.cells.items (pos c ∷ []) (take n u) ∙ ap (λ t. old.cells.items ++ (pos c ∷ t)) (sym (append-nil (take n u)));
      count = count;
    })

rows_append : (n : ℕ) (terms more : List Term) → rows_of_terms n (terms ++ more) ≡ rows_of_terms n terms ++ rows_of_terms n more
rows_append n terms more = map-append (row_of_term n) terms more

cells_append : (n : ℕ) (terms more : List Term) → cells_of n (terms ++ more) ≡ cells_of n terms ++ cells_of n more
cells_append n terms more = ap (flat_map (λ row. row)) (rows_append n terms more) ∙ flat_map-append (λ row. row) (rows_of_terms n terms) (rows_of_terms n more)

pub goes_append : (n : ℕ) (us vs : List (List ℤ)) (old mid new : Walk) → WalksOn n us old mid → WalksOn n vs mid new → WalksOn n (us ++ vs) old new
goes_append n us vs old mid new h k = record {
  terms = h.terms ++ k.terms;
  walk = walk_append us vs old.rest.items mid.rest.items new.rest.items h.terms k.terms h.walk k.walk;
  rows = subst (AreRows (n + 1)) (sym (rows_append n h.terms k.terms)) (each_append (λ row. (length row ≡ n + 1) × AllByRecursion InRange row) (rows_of_terms n h.terms) (rows_of_terms n k.terms) h.rows k.rows);
  cells = k.cells ∙ ap (λ t. t ++ cells_of n k.terms) h.cells ∙ append_assoc old.cells.items (cells_of n h.terms) (cells_of n k.terms) ∙ ap (λ t. old.cells.items ++ t) (sym (cells_append n h.terms k.terms));
  count = omega (arith, h.count, k.count, length-append h.terms k.terms);
}

-- ---- what is left stays in range
range_below : (u v : List ℤ) → u ⊑ v → AllByRecursion InRange v → AllByRecursion InRange u
range_below [] v h r = tt
range_below (x ∷ u) [] h r = absurd h
range_below (x ∷ u) (y ∷ v) h r = (let l : nat_abs x ≤ nat_abs y = (h.0).no_larger in let m : nat_abs y ≤ largest = r.0 in omega arith, range_below u v h.1 r.1)

pub open_after : (c w : ℕ) (u : List ℤ) (old new : Walk) → times c u ⊑ old.rest.items → new.rest.items ≡ subtract old.rest.items (times c u) → HasRest w old → HasRest w new
open_after c w u old new b e o =
    let below : subtract old.rest.items (times c u) ⊑ old.rest.items = difference_below (times c u) old.rest.items b in record {
      width = ap length e ∙ length-below (subtract old.rest.items (times c u)) old.rest.items below ∙ o.width;
      range = subst (AllByRecursion InRange) (sym e) (range_below (subtract old.rest.items (times c u)) old.rest.items below o.range);
    }
