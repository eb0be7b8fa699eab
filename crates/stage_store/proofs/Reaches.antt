-- Reaches: two rows whose last entries are too far apart have no irreducible sum.
use Rattle.std.proofs.Common.{◌≡◌, ℕ, zero, suc, ◌+◌, ◌≤◌, ◌<◌, List, [], ◌∷◌, ◌++◌, length, get_or, set, refl, ap, sym, ◌∙◌, subst, arith, inl, inr, length-append}
use Rattle.std.specs.Prelude.{ℤ, pos, ◌<ℤ◌, ◌≤ℤ◌, ◌+ℤ◌, ◌*ℤ◌, neg_ℤ, nat_abs, int_lt, cond, MatchOption, IfSome}
use Rattle.std.specs.List.{Contains}
use Rattle.std.proofs.lemmas.Bool.{cases_lt, cases_Bool}
use Rattle.std.proofs.lemmas.Int.{ints}
use Rattle.std.proofs.lemmas.List.{get_or_append_left, get_or-append-add}
use Rattle.std.proofs.lemmas.List.Elements.{Contains-append_left}
use Rattle.int_vector.specs.Vectors.{◌⊑◌, IsWithin}
use Rattle.int_vector.specs.Operations.{add, AreConformal}
use Rattle.int_vector.proofs.Vectors.{below_trans}
use Rattle.lift_core.specs.Systems.{LinearSystem}
use Rattle.lift_core.specs.Stages.{front, last}
use Rattle.stage_store.specs.Classes.{row_at}
use Rattle.lift_core.specs.Halves.{IsReducible}
use Rattle.stage_store.specs.Found.{IsSumOf}
use Rattle.stage_store.specs.Reaches.{entry_against, with_reach, IsReachOr, AreReaches, AreFarApart}
use Rattle.stage_store.specs.Sieve.{HasNoNewSum}
use Rattle.std.proofs.Common.{subst₂, Option, Some, None}
use Rattle.std.proofs.lemmas.List.Elements.{Contains-get_or}
use Rattle.lift_core.specs.PairSums.{IsIrreducible}
use Rattle.lift_core.proofs.Stages.{last-get_or}
use Rattle.row_pool.specs.declared.RowId.{RowId}
use Rattle.row_pool.specs.Rows.{PoolValue}
use Rattle.reduce_tree.specs.Tree.{TreeValue, AreNotBelow, places_of}
use Rattle.stage_store.specs.Indexed.{HoldsRows}
use Rattle.stage_store.proofs.Indexed.{find_result}
use Rattle.stage_store.proofs.StageFields.{less_is}

-- ---- the row with a reach is below the sum
within_sum : (x a : ℤ) → pos 0 ≤ℤ (x *ℤ a) → IsWithin x (x +ℤ a)
within_sum x a h = grind (arith, ints)

within_other : (x a : ℤ) → pos 0 ≤ℤ (x *ℤ a) → IsWithin a (x +ℤ a)
within_other x a h = grind (arith, ints)

pub first_below : (f g : List ℤ) (r : ℕ) → length f ≡ length g → AreConformal (front f) (front g) → IsWithin (entry_against (last f) r) (last f +ℤ last g) → with_reach f r ⊑ add f g
first_below [] g r n h w = tt
first_below (x ∷ f) [] r n h w = absurd (omega arith)
first_below (x ∷ []) (a ∷ []) r n h w = (w, tt)
first_below (x ∷ []) (a ∷ b ∷ g) r n h w = absurd (omega arith)
first_below (x ∷ y ∷ f) (a ∷ []) r n h w = absurd (omega arith)
first_below (x ∷ y ∷ f) (a ∷ b ∷ g) r n h w = (within_sum x a h.0, first_below (y ∷ f) (b ∷ g) r (omega arith) h.1 w)

pub second_below : (f g : List ℤ) (r : ℕ) → length f ≡ length g → AreConformal (front f) (front g) → IsWithin (entry_against (last g) r) (last f +ℤ last g) → with_reach g r ⊑ add f g
second_below [] [] r n h w = tt
second_below [] (a ∷ g) r n h w = absurd (omega arith)
second_below (x ∷ f) [] r n h w = absurd (omega arith)
second_below (x ∷ []) (a ∷ []) r n h w = (w, tt)
second_below (x ∷ []) (a ∷ b ∷ g) r n h w = absurd (omega arith)
second_below (x ∷ y ∷ f) (a ∷ []) r n h w = absurd (omega arith)
second_below (x ∷ y ∷ f) (a ∷ b ∷ g) r n h w = (within_other x a h.0, second_below (y ∷ f) (b ∷ g) r (omega arith) h.1 w)

within_under : (x y : ℤ) (r : ℕ) → pos 0 <ℤ x → y <ℤ pos 0 → nat_abs x + r ≤ nat_abs y → IsWithin (neg_ℤ (pos r)) (x +ℤ y)
within_under x y r p q h = grind (arith, ints)

within_above : (x y : ℤ) (r : ℕ) → pos 0 <ℤ x → y <ℤ pos 0 → nat_abs y + r ≤ nat_abs x → IsWithin (pos r) (x +ℤ y)
within_above x y r p q h = grind (arith, ints)

pub against_above : (x : ℤ) (r : ℕ) → pos 0 <ℤ x → entry_against x r ≡ neg_ℤ (pos r)
against_above x r p = ap (λ b. cond b (neg_ℤ (pos r)) (pos r)) (less_is (pos 0) x p)

pub against_under : (x : ℤ) (r : ℕ) → x <ℤ pos 0 → entry_against x r ≡ pos r
against_under x r q = elim (cases_Bool (int_lt (pos 0) x)) [
  | inl t ↦ absurd (omega (arith, ints, t, q))
  | inr t ↦ ap (λ b. cond b (neg_ℤ (pos r)) (pos r)) t
]

pub far_apart : (S : LinearSystem) (listed : List (List ℤ)) (f g : List ℤ) (r o : ℕ) → length f ≡ length g → AreFarApart (last f) (last g) r o → IsReachOr listed f r → IsReachOr listed g o → (z : List ℤ) → IsSumOf S listed f g z → ⊥
far_apart S listed f g r o n h a b z s = elim h.far [
  | inl p ↦
      let u = a p.0 in
      let w : with_reach f r ⊑ add f g = first_below f g r n s.sum.conformal (subst (λ (e : ℤ). IsWithin e (last f +ℤ last g)) (sym (against_above (last f) r h.above)) (within_under (last f) (last g) r h.above h.under p.1)) in
      s.irreducible u.0 u.1 (subst (λ (y : List ℤ). u.0 ⊑ y) (sym s.is) (below_trans u.0 (with_reach f r) (add f g) u.2 w))
  | inr p ↦
      let u = b p.0 in
      let w : with_reach g o ⊑ add f g = second_below f g o n s.sum.conformal (subst (λ (e : ℤ). IsWithin e (last f +ℤ last g)) (sym (against_under (last g) o h.under)) (within_above (last f) (last g) o h.above h.under p.1)) in
      s.irreducible u.0 u.1 (subst (λ (y : List ℤ). u.0 ⊑ y) (sym s.is) (below_trans u.0 (with_reach g o) (add f g) u.2 w))
]

-- ---- the probe
pub probe_is : (row : List ℤ) (w r : ℕ) → length row ≡ w + 1 → set row w (entry_against (get_or row w (pos 0)) r) ≡ with_reach row r
probe_is [] w r n = absurd (omega arith)
probe_is (x ∷ []) zero r n = refl
probe_is (x ∷ []) (suc w) r n = absurd (omega arith)
probe_is (x ∷ y ∷ row) zero r n = absurd (omega arith)
probe_is (x ∷ y ∷ row) (suc w) r n = ap (λ l. x ∷ l) (probe_is (y ∷ row) w r (omega arith))

-- ---- one reach more
pub one_reach_more : (listed : List (List ℤ)) (old new : List ℕ) (r i : ℕ) → new ≡ old ++ (r ∷ []) → length old ≡ i → AreReaches listed old → IsReachOr listed (row_at listed i) r → AreReaches listed new
one_reach_more listed old new r i e n h here = λ k l. elim (cases_lt k i) [
  | inl s ↦
      let at : get_or new k 0 ≡ get_or old k 0 = ap (λ x. get_or x k 0) e ∙ get_or_append_left old (r ∷ []) 0 k (omega (arith, n, s)) in
      subst (λ m. IsReachOr listed (row_at listed k) m) (sym at) (h k (omega (arith, n, s)))
  | inr s ↦
      let place : k ≡ length old + 0 = omega (arith, l, ap length e, length-append old (r ∷ []), s, n) in
      let at : get_or new k 0 ≡ r = ap (λ x. get_or x k 0) e ∙ ap (λ m. get_or (old ++ (r ∷ [])) m 0) place ∙ get_or-append-add old (r ∷ []) 0 0 in
      let same : i ≡ k = omega (arith, place, n) in
      subst (λ m. IsReachOr listed (row_at listed k) m) (sym at) (subst (λ j. IsReachOr listed (row_at listed j) r) same here)
]

pub reach_stays : (listed new : List (List ℤ)) (row : List ℤ) (r : ℕ) → IsReachOr listed row r → IsReachOr (listed ++ new) row r
reach_stays listed new row r h p = let u = h p in (u.0, Contains-append_left listed new u.0 u.1, u.2)

pub far_rows : (S : LinearSystem) (listed : List (List ℤ)) (f g : ℕ) (u v : List ℤ) (w r o : ℕ) → u ≡ row_at listed f → v ≡ row_at listed g → length u ≡ w + 1 → length v ≡ w + 1 → AreFarApart (get_or u w (pos 0)) (get_or v w (pos 0)) r o
    → IsReachOr listed (row_at listed f) r → IsReachOr listed (row_at listed g) o → HasNoNewSum S listed f g
far_rows S listed f g u v w r o a b n m h p q =
    far_apart S listed (row_at listed f) (row_at listed g) r o (omega (arith, ap length a, ap length b, n, m))
    (subst₂ (λ (x y : ℤ). AreFarApart x y r o) (sym (last-get_or u w (pos 0) n) ∙ ap last a) (sym (last-get_or v w (pos 0) m) ∙ ap last b) h) p q

pub found_reduces : (result : Option RowId) (tree : TreeValue) (listed : PoolValue) (z : List ℤ) → HoldsRows tree listed → MatchOption result (AreNotBelow (places_of tree) listed.rows z) (λ id. Contains (places_of tree) id.0 × (get_or listed.rows id.0 [] ⊑ z))
    → IfSome result (λ id. (id.0 < length listed.rows) × IsReducible listed.rows z)
found_reduces result tree listed z h found = go result (find_result result tree listed listed.rows z h refl found)
  where
    go : (r : Option RowId) → MatchOption r (IsIrreducible listed.rows z) (λ id. (id.0 < length listed.rows) × (get_or listed.rows id.0 [] ⊑ z)) → IfSome r (λ id. (id.0 < length listed.rows) × IsReducible listed.rows z)
    go None k = tt
    go (Some id) k = (k.0, (get_or listed.rows id.0 [], Contains-get_or listed.rows id.0 [] k.0, k.1))

-- a listed row that is below the row with a reach shows it
pub shown : (listed : List (List ℤ)) (u row : List ℤ) (r : ℕ) → Contains listed u → u ⊑ with_reach row r → IsReachOr listed row r
shown listed u row r c b = λ p. (u, c, b)
