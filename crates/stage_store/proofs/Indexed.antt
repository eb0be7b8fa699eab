-- The tree over the listed rows: it holds them, and what it does not find is not there.
use Rattle.std.proofs.Common.{◌≡◌, ℕ, zero, suc, ◌+◌, ◌≤◌, ◌<◌, List, [], ◌∷◌, ◌++◌, length, get_or, take, refl, ap, sym, ◌∙◌, subst, arith, Option, Some, None, length-take, get_or-take}
use Rattle.std.specs.Prelude.{ℤ, map, MatchOption}
use Rattle.std.specs.List.{AllByRecursion, Contains, range_with_len}
use Rattle.std.proofs.lemmas.List.{get_or_default}
use Rattle.std.proofs.lemmas.List.FromFn.{length-range_with_len, get_or-range_with_len}
use Rattle.int_vector.specs.Vectors.{◌⊑◌}
use Rattle.lift_core.specs.PairSums.{IsIrreducible}
use Rattle.row_pool.specs.declared.RowId.{RowId}
use Rattle.row_pool.specs.Rows.{PoolValue}
use Rattle.reduce_tree.specs.Tree.{TreeValue, Fits, StandsAt, places_of, AreNotBelow, AreNotBelowBefore}
use Rattle.reduce_tree.specs.declared.tree.Filed.{Filed}
use Rattle.reduce_tree.proofs.Pools.{fits_cut}
use Rattle.stage_store.specs.Indexed.{HoldsRows}

pub holds_nothing : (tree : TreeValue) (listed : PoolValue) → tree.width ≡ listed.width → tree.filed ≡ [] → listed.rows ≡ [] → HoldsRows tree listed
holds_nothing tree listed w none nothing = record {
  fits = record { width = sym w; rows = subst (λ (fs : List Filed). AllByRecursion (StandsAt tree.levels listed.rows) fs) (sym none) tt };
  places = ap (λ (fs : List Filed). map (λ (f : Filed). f.place) fs) none ∙ ap (λ (r : List (List ℤ)). range_with_len 0 (length r)) (sym nothing);
}

-- ---- one row more, and the rows before
pub range_more : (a n : ℕ) → range_with_len a (n + 1) ≡ range_with_len a n ++ (a + n) ∷ []
range_more a n = let next : suc n ≡ n + 1 = omega arith in subst (λ m. range_with_len a m ≡ range_with_len a n ++ (a + n) ∷ []) next (one_more a n)
  where
    one_more : (b m : ℕ) → range_with_len b (suc m) ≡ range_with_len b m ++ (b + m) ∷ []
    one_more b zero = ap (λ i. i ∷ []) (omega arith)
    one_more b (suc m) = ap (λ (r : List ℕ). b ∷ r) (one_more (b + 1) m ∙ ap (λ i. range_with_len (b + 1) m ++ i ∷ []) (omega arith))

range_take : (a n m : ℕ) → m ≤ n → take m (range_with_len a n) ≡ range_with_len a m
range_take a n zero h = refl
range_take a zero (suc m) h = absurd (omega arith)
range_take a (suc n) (suc m) h = ap (λ (r : List ℕ). a ∷ r) (range_take (a + 1) n m (omega arith))

range_below : (a n top : ℕ) → a + n ≤ top → AllByRecursion (λ i. i < top) (range_with_len a n)
range_below a zero top h = tt
range_below a (suc n) top h = (omega arith, range_below (a + 1) n top (omega arith))

-- the rows from number m on are gone from both
pub holds_cut : (tree cut : TreeValue) (old grown : PoolValue) (back : PoolValue) (m i : ℕ) → m ≡ length old.rows → m ≤ i → Fits cut grown → places_of tree ≡ range_with_len 0 i → places_of cut ≡ take m (places_of tree)
    → back.width ≡ grown.width → back.rows ≡ take m grown.rows → back.rows ≡ old.rows → HoldsRows cut back
holds_cut tree cut old grown back m i n l fits places kept w rows same =
    let is : places_of cut ≡ range_with_len 0 m = kept ∙ ap (λ p. take m p) places ∙ range_take 0 i m l in
    record {
      fits = fits_cut cut grown back m fits (subst (λ p. AllByRecursion (λ j. j < m) p) (sym is) (range_below 0 m m (omega arith))) w rows;
      places = is ∙ ap (λ k. range_with_len 0 k) (n ∙ ap length (sym same));
    }

-- ---- a row below
row_there : (rows : List (List ℤ)) (u : List ℤ) → (c : Contains rows u) → get_or rows c.0 [] ≡ u
row_there rows u c = get_or_default rows c.0 [] u c.1 ∙ c.2

pub find_result : (result : Option RowId) (tree : TreeValue) (listed : PoolValue) (rows : List (List ℤ)) (z : List ℤ) → HoldsRows tree listed → listed.rows ≡ rows
    → MatchOption result (AreNotBelow (places_of tree) listed.rows z) (λ id. Contains (places_of tree) id.0 × (get_or listed.rows id.0 [] ⊑ z))
    → MatchOption result (IsIrreducible rows z) (λ id. (id.0 < length rows) × (get_or rows id.0 [] ⊑ z))
find_result None tree listed rows z h same none =
    subst (λ (r : List (List ℤ)). IsIrreducible r z) same (λ u c below.
    none c.0 (subst (λ p. Contains p c.0) (sym h.places) (c.0, omega (arith, c.1, length-range_with_len 0 (length listed.rows)), get_or-range_with_len 0 (length listed.rows) c.0 c.0 c.1 ∙ omega arith))
    (subst (λ (v : List ℤ). v ⊑ z) (sym (row_there listed.rows u c)) below))
find_result (Some id) tree listed rows z h same found =
    let c : Contains (range_with_len 0 (length listed.rows)) id.0 = subst (λ p. Contains p id.0) h.places found.0 in
    let place : c.0 ≡ id.0 = omega (arith, get_or-range_with_len 0 (length listed.rows) c.0 id.0 (omega (arith, c.1, length-range_with_len 0 (length listed.rows))), c.2) in
    let inside : id.0 < length listed.rows = omega (arith, place, c.1, length-range_with_len 0 (length listed.rows)) in
    subst (λ (r : List (List ℤ)). (id.0 < length r) × (get_or r id.0 [] ⊑ z)) same (inside, found.1)

-- the same among the first rows, so many of them
pub find_result_before : (result : Option RowId) (tree : TreeValue) (listed : PoolValue) (rows : List (List ℤ)) (z : List ℤ) (end : ℕ) → HoldsRows tree listed → listed.rows ≡ rows
    → MatchOption result (AreNotBelowBefore end (places_of tree) listed.rows z) (λ id. Contains (places_of tree) id.0 × (id.0 < end) × (get_or listed.rows id.0 [] ⊑ z))
    → MatchOption result (IsIrreducible (take end rows) z) (λ id. (id.0 < length rows) × (get_or rows id.0 [] ⊑ z))
find_result_before None tree listed rows z end h same none =
    subst (λ (r : List (List ℤ)). IsIrreducible (take end r) z) same (λ u c below.
    let first : c.0 < end = omega (arith, c.1, length-take end listed.rows) in
    let inside : c.0 < length listed.rows = omega (arith, c.1, length-take end listed.rows) in
    let there : get_or listed.rows c.0 [] ≡ u = sym (get_or-take end listed.rows c.0 [] first) ∙ row_there (take end listed.rows) u c in
    none c.0 (subst (λ p. Contains p c.0) (sym h.places) (c.0, omega (arith, inside, length-range_with_len 0 (length listed.rows)), get_or-range_with_len 0 (length listed.rows) c.0 c.0 inside ∙ omega arith)) first
    (subst (λ (v : List ℤ). v ⊑ z) (sym there) below))
find_result_before (Some id) tree listed rows z end h same found = find_result (Some id) tree listed rows z h same (found.0, found.2)
