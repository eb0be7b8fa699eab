-- The search down the tiers: the loop over the classes that z shares with a branch, and what a bucket says.
-- What is left are the classes whose kids have not been looked at; in the end none is left.
use Rattle.std.proofs.Common.{◌≡◌, ◌≢◌, ℕ, ◌<◌, ◌≤◌, List, [], length, get_or, sym, ap, ◌∙◌, subst, arith, inl, inr, Some}
use Rattle.std.specs.Prelude.{ℤ, bit_and}
use Rattle.std.specs.Int.{bit_at}
use Rattle.std.specs.List.{AllByRecursion}
use Rattle.std.proofs.lemmas.Bool.{cases_eq}
use Rattle.std.proofs.lemmas.List.{get_or_default, get_or_past}
use Rattle.std.proofs.lemmas.Nat.Bits.{bit_at-zero}
use Rattle.reduce_tree.specs.declared.bounds.Bounds.{Bounds}
use Rattle.reduce_tree.specs.declared.index.Index.{Index}
use Rattle.reduce_tree.specs.declared.tree.Filed.{Filed}
use Rattle.reduce_tree.specs.Inside.Buckets.{IsMarked, AreNoneBelow, IsBelowAt}
use Rattle.reduce_tree.specs.Inside.Filing.{bucket_at, bucket_count}
use Rattle.reduce_tree.specs.Inside.Searches.{AreAllMarked, AllKids, HasNoneIn, IsBelowIn, HoldsOfSearched}
use Rattle.reduce_tree.specs.Inside.Tiers.{BranchValue, HasKidAt, kid_at}
use Rattle.reduce_tree.proofs.Bits.{set_shared}

-- ---- the loop
module _ (tier : List BranchValue) (classes : ℕ) (P : ℕ → Type 0) (n : ℕ) where
  pub left_begun : (there : ℕ) → ((c : ℕ) → HasKidAt tier n c → bit_at there c ≡ 1) → HoldsOfSearched tier classes (bit_and there classes) P n
  left_begun there all = λ c e s. inl (set_shared there classes c (all c s) e)

  -- the kid that was read is that of the class
  pub kid_read : (class kid : ℕ) → (HasKidAt tier n class → Some kid ≡ Some (kid_at tier n class)) → P kid → HasKidAt tier n class → P (kid_at tier n class)
  kid_read class kid read p s = let e = read s in let same : kid ≡ kid_at tier n class = cc in subst P same p

  -- the kid of the class that is taken out has been looked at
  pub left_less : (rest less class : ℕ) → ((c : ℕ) → c ≢ class → bit_at rest c ≡ 1 → bit_at less c ≡ 1) → (HasKidAt tier n class → P (kid_at tier n class)) → HoldsOfSearched tier classes rest P n → HoldsOfSearched tier classes less P n
  left_less rest less class others here left = λ c e s. elim (cases_eq c class) [
    | inl same ↦ inr (subst (λ k. HasKidAt tier n k → P (kid_at tier n k)) (sym same) here s)
    | inr d ↦ elim (left c e s) [
      | inl set ↦ inl (others c d set)
      | inr p ↦ inr p
    ]
  ]

  pub left_ended : (rest : ℕ) → rest ≡ 0 → HoldsOfSearched tier classes rest P n → AllKids tier classes P n
  left_ended rest none left = λ c e s. elim (left c e s) [
    | inl set ↦ absurd (differ (bit_at rest c) set (ap (λ m. bit_at m c) none ∙ bit_at-zero c))
    | inr p ↦ p
  ]
    where
      differ : (x : ℕ) → x ≡ 1 → x ≡ 0 → ⊥
      differ x e f = omega arith

-- ---- buckets
bucket_is : (index : Index) (b : ℕ) (bucket : List Filed) → b < bucket_count index → bucket ≡ get_or index.buckets.items b bucket → bucket ≡ bucket_at index b
bucket_is index b bucket l e = e ∙ get_or_default index.buckets.items b bucket [] l

pub marked_at : (index : Index) (rows : List (List ℤ)) (z : List ℤ) (bounds : Bounds) (b : ℕ) (bucket : List Filed) → AreAllMarked index rows z bounds → b < bucket_count index → bucket ≡ get_or index.buckets.items b bucket
    → AllByRecursion (IsMarked rows z bounds) bucket
marked_at index rows z bounds b bucket h l e = subst (AllByRecursion (IsMarked rows z bounds)) (sym (bucket_is index b bucket l e)) (h b)

pub none_at : (index : Index) (rows : List (List ℤ)) (z : List ℤ) (bounds : Bounds) (b : ℕ) (bucket : List Filed) → b < bucket_count index → bucket ≡ get_or index.buckets.items b bucket
    → AreNoneBelow bucket rows z bounds (length bucket) → HasNoneIn index rows z bounds b
none_at index rows z bounds b bucket l e h = subst (λ (v : List Filed). AreNoneBelow v rows z bounds (length v)) (bucket_is index b bucket l e) h

-- where there is no bucket of this number, none of its rows is below z
pub none_past : (index : Index) (rows : List (List ℤ)) (z : List ℤ) (bounds : Bounds) (b : ℕ) → bucket_count index ≤ b → HasNoneIn index rows z bounds b
none_past index rows z bounds b h =
    subst (λ (v : List Filed). AreNoneBelow v rows z bounds (length v)) (sym (get_or_past index.buckets.items b [] h)) (λ k f l. absurd (omega arith))

pub found_at : (index : Index) (rows : List (List ℤ)) (z : List ℤ) (bounds : Bounds) (b id : ℕ) (bucket : List Filed) → b < bucket_count index → bucket ≡ get_or index.buckets.items b bucket
    → IsBelowAt bucket rows z bounds id → IsBelowIn index rows z bounds id
found_at index rows z bounds b id bucket l e h = (b, l, subst (λ (v : List Filed). IsBelowAt v rows z bounds id) (bucket_is index b bucket l e) h)
