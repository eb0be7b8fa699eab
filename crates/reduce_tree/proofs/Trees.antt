-- The tree: what is filed is marked for a search, and a search of two parts is a search of all.
-- A row below z is in part 0 or in that of z, and z has each of its classes. So the tiers lead the search to its bucket.
use Rattle.std.proofs.Common.{◌≡◌, ℕ, zero, suc, ◌*◌, ◌%◌, ◌^◌, ◌<◌, ◌≤◌, List, [], ◌∷◌, length, get_or, Bool, true, false, cond, sym, refl, ap, ◌∙◌, subst, arith, inl, inr, Some, None, Option}
use Rattle.std.specs.Prelude.{ℤ, map, bit_and, bit_or, MatchOption, ◌==◌}
use Rattle.std.specs.Int.{bit_at, bit_not, w128}
use Rattle.std.specs.List.{AllByRecursion, Contains}
use Rattle.std.proofs.lemmas.Bool.{eq-eqb}
use Rattle.std.proofs.lemmas.List.{get_or-map, length-map}
use Rattle.int_vector.specs.Vectors.{◌⊑◌}
use Rattle.row_pool.specs.declared.RowId.{RowId}
use Rattle.row_pool.specs.Rows.{PoolValue}
use Rattle.reduce_tree.specs.declared.bounds.Bounds.{Bounds}
use Rattle.reduce_tree.specs.declared.index.Index.{Index}
use Rattle.reduce_tree.specs.declared.tree.Filed.{Filed}
use Rattle.reduce_tree.specs.Items.{part_of, size_of, IsRowClass}
use Rattle.reduce_tree.specs.Signatures.{signature_of}
use Rattle.reduce_tree.specs.Tree.{TreeValue, place_of, places_of, StandsAt, Fits, AreNotBelow, AreNotBelowBefore}
use Rattle.reduce_tree.specs.Inside.Buckets.{nothing_filed, IsMarked, IsNotBelow, AreNoneBelow, IsBelowAt}
use Rattle.reduce_tree.specs.Inside.Filing.{LeadsToBucket, in_bucket, IsTree}
use Rattle.reduce_tree.specs.Inside.Searches.{AreAllMarked, HasNoneIn, HasNoneUnderFirst, IsBelowIn}
use Rattle.std.proofs.lemmas.Nat.Bits.{bit_at-lt, bit_at_set_same}
use Rattle.reduce_tree.specs.Bits.{IsPartOf}
use Rattle.reduce_tree.proofs.Bits.{part_meets_none, set_kept}
use Rattle.reduce_tree.proofs.Buckets.{filed_at}
use Rattle.reduce_tree.proofs.Filing.{part_above, size_above}
use Rattle.reduce_tree.proofs.Signatures.{signature_fits, signature_part}

abbrev pub tree_value : ℕ → ℕ → List Filed → TreeValue
tree_value width levels filed = record { width = width; levels = levels; filed = filed }

-- ---- what is filed in one bucket
all_in : (P : Filed → Type 0) (b : ℕ) (filed : List Filed) → AllByRecursion P filed → AllByRecursion P (in_bucket b filed)
all_in P b [] h = tt
all_in P b (f ∷ filed) h =
    let rest : AllByRecursion P (in_bucket b filed) = all_in P b filed h.1 in
    elim (f.bucket == b) as (λ t. AllByRecursion P (cond t (f ∷ in_bucket b filed) (in_bucket b filed))) [
      | true ↦ (h.0, rest)
      | false ↦ rest
    ]

all_from : (P : Filed → Type 0) (filed : List Filed) → ((k : ℕ) → k < length filed → P (get_or filed k nothing_filed)) → AllByRecursion P filed
all_from P [] h = tt
all_from P (f ∷ filed) h = (h 0 (omega arith), all_from P filed (λ k l. h (suc k) (omega arith)))

-- what holds of all that is filed in a bucket holds of each that is filed there
of_filed : (P : Filed → Type 0) (filed : List Filed) (k : ℕ) → k < length filed → AllByRecursion P (in_bucket (get_or filed k nothing_filed).bucket filed) → P (get_or filed k nothing_filed)
of_filed P [] k l h = absurd (omega arith)
of_filed P (f ∷ filed) zero l h =
    let all : AllByRecursion P (f ∷ in_bucket f.bucket filed) = subst (λ t. AllByRecursion P (cond t (f ∷ in_bucket f.bucket filed) (in_bucket f.bucket filed))) (eq-eqb f.bucket f.bucket refl) h in
    all.0
of_filed P (f ∷ filed) (suc k) l h = of_filed P filed k (omega arith) (rest (f.bucket == (get_or filed k nothing_filed).bucket) h)
  where
    rest : (t : Bool) → AllByRecursion P (cond t (f ∷ in_bucket (get_or filed k nothing_filed).bucket filed) (in_bucket (get_or filed k nothing_filed).bucket filed)) → AllByRecursion P (in_bucket (get_or filed k nothing_filed).bucket filed)
    rest true h = h.1
    rest false h = h

place_filed : (b id k : ℕ) (filed : List Filed) → k < length (in_bucket b filed) → (get_or (in_bucket b filed) k nothing_filed).place ≡ id → Contains (map place_of filed) id
place_filed b id k [] l e = absurd (omega arith)
place_filed b id k (f ∷ filed) l e = go (λ j m g. place_filed b id j filed m g) (f.bucket == b) k l e
  where
    deeper : Contains (map place_of filed) id → Contains (map place_of (f ∷ filed)) id
    deeper c = (suc c.0, omega (arith, c.1), c.2)

    go : ((j : ℕ) → j < length (in_bucket b filed) → (get_or (in_bucket b filed) j nothing_filed).place ≡ id → Contains (map place_of filed) id) → (t : Bool) (i : ℕ)
        → i < length (cond t (f ∷ in_bucket b filed) (in_bucket b filed)) → (get_or (cond t (f ∷ in_bucket b filed) (in_bucket b filed)) i nothing_filed).place ≡ id → Contains (map place_of (f ∷ filed)) id
    go rest true zero m g = (0, omega arith, g)
    go rest true (suc i) m g = deeper (rest i (omega arith) g)
    go rest false i m g = deeper (rest i m g)

-- what a tree fits stands in the pool
pub fits_rows : (t : TreeValue) (width levels : ℕ) (filed : List Filed) (pool : PoolValue) → tree_value width levels filed ≡ t → Fits t pool → AllByRecursion (StandsAt levels pool.rows) filed
fits_rows t width levels filed pool e fits = (subst (λ v. Fits v pool) (sym e) fits).rows

-- a class by a part of a signature is one by the whole
class_above : (a b c : ℕ) → IsPartOf a b → IsRowClass a c → IsRowClass b c
class_above a b c h (inl e) = inl e
class_above a b c h (inr e) = inr (both (bit_at a c) (bit_at b c) (h c) e (bit_at-lt b c))
  where
    both : (x y : ℕ) → x ≤ y → x ≡ 1 → y < 2 → y ≡ 1
    both x y l e m = omega arith

-- ---- the bounds of a search for a row below z
pub record IsBoundsOf (levels : ℕ) (z : List ℤ) (bounds : Bounds) : Type 0 where
  pub classes : (c : ℕ) → IsRowClass (signature_of levels z) c → bit_at bounds.classes c ≡ 1
  pub outside : bounds.outside ≡ bit_not w128 (signature_of levels z)
  pub size : bounds.size ≡ size_of z

marked : (levels : ℕ) (rows : List (List ℤ)) (z : List ℤ) (bounds : Bounds) (f : Filed) → IsBoundsOf levels z bounds → StandsAt levels rows f → IsMarked rows z bounds f
marked levels rows z bounds f of s = record {
  inside = s.inside;
  admitted = λ below before. record {
    bits = subst (λ o. bit_and f.bits o ≡ 0) (sym of.outside)
        (subst (λ b. bit_and b (bit_not w128 (signature_of levels z)) ≡ 0) (sym s.bits)
        (part_meets_none (signature_of levels (get_or rows f.place [])) (signature_of levels z) (signature_fits levels 0 (get_or rows f.place [])) (signature_fits levels 0 z) (signature_part levels 0 (get_or rows f.place []) z below)));
    size = omega (arith, s.size, of.size, size_above (get_or rows f.place []) z below);
    place = before;
  };
}

all_marked : (levels : ℕ) (rows : List (List ℤ)) (z : List ℤ) (bounds : Bounds) (filed : List Filed) → IsBoundsOf levels z bounds → AllByRecursion (StandsAt levels rows) filed → AllByRecursion (IsMarked rows z bounds) filed
all_marked levels rows z bounds [] of h = tt
all_marked levels rows z bounds (f ∷ filed) of h = (marked levels rows z bounds f of h.0, all_marked levels rows z bounds filed of h.1)

module _ (width levels : ℕ) (filed : List Filed) (index : Index) (tree : IsTree width levels filed index) (rows : List (List ℤ)) (z : List ℤ) (bounds : Bounds) where
  marked_tree : IsBoundsOf levels z bounds → AllByRecursion (StandsAt levels rows) filed → AreAllMarked index rows z bounds
  marked_tree of stands = λ b.
      subst (AllByRecursion (IsMarked rows z bounds)) (sym (tree.contents b)) (all_in (IsMarked rows z bounds) b filed (all_marked levels rows z bounds filed of stands))

  -- ---- none below
  none_of : IsBoundsOf levels z bounds → AllByRecursion (StandsAt levels rows) filed → HasNoneUnderFirst index rows z bounds 0 → HasNoneUnderFirst index rows z bounds (part_of z)
      → (k : ℕ) → k < length filed → IsNotBelow rows z bounds (get_or filed k nothing_filed)
  none_of of stands first second k l = λ before below.
      let s : StandsAt levels rows (get_or filed k nothing_filed) = filed_at (StandsAt levels rows) filed k stands l in
      let leads : LeadsToBucket index (get_or filed k nothing_filed).key (get_or filed k nothing_filed).bucket = filed_at (λ f. LeadsToBucket index f.key f.bucket) filed k tree.leads l in
      let has : (c : ℕ) → IsRowClass (get_or filed k nothing_filed).bits c → bit_at bounds.classes c ≡ 1 =
      λ c h. of.classes c (class_above (get_or filed k nothing_filed).bits (signature_of levels z) c (subst (λ b. IsPartOf b (signature_of levels z)) (sym s.bits) (signature_part levels 0 (get_or rows (get_or filed k nothing_filed).place []) z below)) h) in
      let none : HasNoneUnderFirst index rows z bounds (get_or filed k nothing_filed).key.part =
      elim (part_above (get_or rows (get_or filed k nothing_filed).place []) z below) [
        | inl e ↦ subst (λ n. HasNoneUnderFirst index rows z bounds n) (sym (s.key.part ∙ e)) first
        | inr e ↦ subst (λ n. HasNoneUnderFirst index rows z bounds n) (sym (s.key.part ∙ e)) second
      ] in
      let here : HasNoneIn index rows z bounds (get_or filed k nothing_filed).bucket =
      subst (HasNoneIn index rows z bounds) leads.bucket
      (none (get_or filed k nothing_filed).key.first (has (get_or filed k nothing_filed).key.first s.key.first) leads.first
      (get_or filed k nothing_filed).key.second (has (get_or filed k nothing_filed).key.second s.key.second) leads.second
      (get_or filed k nothing_filed).key.third (has (get_or filed k nothing_filed).key.third s.key.third) leads.third) in
      let held : AreNoneBelow (in_bucket (get_or filed k nothing_filed).bucket filed) rows z bounds (length (in_bucket (get_or filed k nothing_filed).bucket filed)) =
      subst (λ (v : List Filed). AreNoneBelow v rows z bounds (length v)) (tree.contents (get_or filed k nothing_filed).bucket) here in
      of_filed (IsNotBelow rows z bounds) filed k l (all_from (IsNotBelow rows z bounds) (in_bucket (get_or filed k nothing_filed).bucket filed) (λ j m. held j m m)) before below

  none_filed : IsBoundsOf levels z bounds → AllByRecursion (StandsAt levels rows) filed → HasNoneUnderFirst index rows z bounds 0 → HasNoneUnderFirst index rows z bounds (part_of z) → AreNotBelowBefore bounds.end (map place_of filed) rows z
  none_filed of stands first second = λ i c before below.
      let l : c.0 < length filed = subst (λ n. c.0 < n) (length-map filed place_of) c.1 in
      let is : (get_or filed c.0 nothing_filed).place ≡ i = sym (get_or-map place_of filed c.0 nothing_filed i l) ∙ c.2 in
      none_of of stands first second c.0 l (subst (λ p. p < bounds.end) (sym is) before) (subst (λ p. get_or rows p [] ⊑ z) (sym is) below)

  -- ---- one below
  found_filed : (id : ℕ) → IsBelowIn index rows z bounds id → Contains (map place_of filed) id × (id < bounds.end) × (get_or rows id [] ⊑ z)
  found_filed id (b, l, at) =
      let held : IsBelowAt (in_bucket b filed) rows z bounds id = subst (λ (v : List Filed). IsBelowAt v rows z bounds id) (tree.contents b) at in
      (place_filed b id held.0 filed held.1 held.2, held.3, held.4)

  -- ---- the same of a tree as it is seen
  pub tree_marked : AllByRecursion (StandsAt levels rows) filed → IsBoundsOf levels z bounds → AreAllMarked index rows z bounds
  tree_marked stands of = marked_tree of stands

  pub tree_found : (t : TreeValue) (id : ℕ) → tree_value width levels filed ≡ t → IsBelowIn index rows z bounds id → Contains (places_of t) id × (id < bounds.end) × (get_or rows id [] ⊑ z)
  tree_found t id e found = subst (λ v. Contains (places_of v) id × (id < bounds.end) × (get_or rows id [] ⊑ z)) e (found_filed id found)

  pub tree_none : (t : TreeValue) (part : ℕ) → tree_value width levels filed ≡ t → AllByRecursion (StandsAt levels rows) filed → IsBoundsOf levels z bounds → part ≡ part_of z → HasNoneUnderFirst index rows z bounds 0 → HasNoneUnderFirst index rows z bounds part
      → AreNotBelowBefore bounds.end (places_of t) rows z
  tree_none t part e stands of p first second =
      subst (λ v. AreNotBelowBefore bounds.end (places_of v) rows z) e
      (none_filed of stands first (subst (λ n. HasNoneUnderFirst index rows z bounds n) p second))

  pub tree_result : (result : Option RowId) (t : TreeValue) (part : ℕ) → tree_value width levels filed ≡ t → AllByRecursion (StandsAt levels rows) filed → IsBoundsOf levels z bounds → part ≡ part_of z → HasNoneUnderFirst index rows z bounds 0
      → MatchOption result (HasNoneUnderFirst index rows z bounds part) (λ id. IsBelowIn index rows z bounds id.0)
      → MatchOption result (AreNotBelowBefore bounds.end (places_of t) rows z) (λ id. Contains (places_of t) id.0 × (id.0 < bounds.end) × (get_or rows id.0 [] ⊑ z))
  tree_result None t part e stands of p first second = tree_none t part e stands of p first second
  tree_result (Some id) t part e stands of p first second = tree_found t id.0 e second

-- ---- a search without an end
-- each inserted place is before the end of the pool
places_inside : (levels : ℕ) (rows : List (List ℤ)) (filed : List Filed) (i : ℕ) → AllByRecursion (StandsAt levels rows) filed → Contains (map place_of filed) i → i < length rows
places_inside levels rows filed i h c =
    let l : c.0 < length filed = subst (λ n. c.0 < n) (length-map filed place_of) c.1 in
    subst (λ p. p < length rows) (sym (get_or-map place_of filed c.0 nothing_filed i l) ∙ c.2) (filed_at (StandsAt levels rows) filed c.0 h l).inside

pub whole_result : (result : Option RowId) (t : TreeValue) (pool : PoolValue) (z : List ℤ) (end : ℕ) → Fits t pool → end ≡ length pool.rows
    → MatchOption result (AreNotBelowBefore end (places_of t) pool.rows z) (λ id. Contains (places_of t) id.0 × (id.0 < end) × (get_or pool.rows id.0 [] ⊑ z))
    → MatchOption result (AreNotBelow (places_of t) pool.rows z) (λ id. Contains (places_of t) id.0 × (get_or pool.rows id.0 [] ⊑ z))
whole_result None t pool z end fits e none = λ i c below. none i c (subst (λ n. i < n) (sym e) (places_inside t.levels pool.rows t.filed i fits.rows c)) below
whole_result (Some id) t pool z end fits e found = (found.0, found.2)

-- ---- the bounds as the search makes them
abbrev pub bounds_with : ℕ → ℕ → ℕ → Bounds
bounds_with bits size end = record { classes = bit_or bits (1 * 2 ^ 127 % 2 ^ 128); outside = bit_not w128 bits; size = size; end = end }

pub are_bounds : (levels : ℕ) (z : List ℤ) (bits size end : ℕ) → bits ≡ signature_of levels z → size ≡ size_of z → IsBoundsOf levels z (bounds_with bits size end)
are_bounds levels z bits size end s n = record { classes = λ c h. classes c (subst (λ b. IsRowClass b c) (sym s) h); outside = ap (bit_not w128) s; size = n }
  where
    classes : (c : ℕ) → IsRowClass bits c → bit_at (bit_or bits (1 * 2 ^ 127 % 2 ^ 128)) c ≡ 1
    classes c (inl e) = subst (λ i. bit_at (bit_or bits (1 * 2 ^ 127 % 2 ^ 128)) i ≡ 1) (sym e) (bit_at_set_same w128 bits 127 (omega arith))
    classes c (inr e) = set_kept bits (1 * 2 ^ 127 % 2 ^ 128) c e
