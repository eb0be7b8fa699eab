-- What stays on the shelves.
use Rattle.std.proofs.Common.{◌≡◌, ℕ, ◌%◌, ◌<◌, List, [], length, get_or, set, sym, subst, arith, inl, inr, Bool, true}
use Rattle.std.specs.Prelude.{nat_lt}
use Rattle.std.specs.List.{filter, Contains}
use Rattle.std.proofs.lemmas.Bool.{cases_eq}
use Rattle.std.proofs.lemmas.List.{get_or-set_other}
use Rattle.std.proofs.lemmas.Grind.{get_or-set_at}
use Rattle.lift_core.proofs.Orders.{in_filter}
use Rattle.stage_store.specs.declared.sieve.KeptPair.{KeptPair}

pub lt_true : (m n : ℕ) → m < n → nat_lt m n ≡ true
lt_true m n l = grind (arith)

-- a pair that passes the test stays
pub filtered_stays : (test : KeptPair → Bool) (old new : List KeptPair) (p : KeptPair) → new ≡ filter test old → test p ≡ true → Contains old p → Contains new p
filtered_stays test old new p is t c = subst (λ (l : List KeptPair). Contains l p) (sym is) (in_filter test old p c t)

-- a pair stays on its shelf, where it stays on the one that is changed
pub one_shelf : (shelves : List (List KeptPair)) (k : ℕ) (shelf new : List KeptPair) (p : KeptPair) → k < length shelves → shelf ≡ get_or shelves k [] → (Contains shelf p → Contains new p)
    → Contains (get_or shelves (p.norm % 256) []) p → Contains (get_or (set shelves k new) (p.norm % 256) []) p
one_shelf shelves k shelf new p inside is stays c = elim (cases_eq (p.norm % 256) k) [
  | inl e ↦
      let here : Contains shelf p = subst (λ (l : List KeptPair). Contains l p) (sym is) (subst (λ (n : ℕ). Contains (get_or shelves n []) p) e c) in
      subst (λ (l : List KeptPair). Contains l p) (sym (get_or-set_at shelves k (p.norm % 256) new [] e (omega (arith, inside, e)))) (stays here)
  | inr f ↦ subst (λ (l : List KeptPair). Contains l p) (sym (get_or-set_other shelves k (p.norm % 256) new [] f)) c
]
