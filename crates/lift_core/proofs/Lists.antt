-- At most one list is the ascending list of the members of a set.
-- Two such lists contain the same elements; the heads are the same, since each is least; and so are the tails.
use Rattle.std.proofs.Common.{◌≡◌, ℕ, zero, suc, ◌<◌, List, [], ◌∷◌, length, refl, ap, ap₂, sym, ◌∙◌, subst, arith, inl, inr, ◌⊎◌, Ordering, Less, get_or}
use Rattle.std.specs.List.{Contains, AllByRecursion}
use Rattle.std.specs.List.Sorted.{IsStrictlySortedBy}
use Rattle.std.specs.Cmp.{IsTotalOrder}
use Rattle.std.specs.Ordering.{ordering_reverse}
use Rattle.lift_core.specs.Lists.{IsListOf}

module _ {X : Type 0} where
  contains_at : (x : X) (xs : List X) (y : X) (k : ℕ) → k < length (x ∷ xs) → get_or (x ∷ xs) k y ≡ y → (x ≡ y) ⊎ Contains xs y
  contains_at x xs y zero l e = inl e
  contains_at x xs y (suc k) l e = inr (k, omega arith, e)

  pub contains_cases : (x : X) (xs : List X) (y : X) → Contains (x ∷ xs) y → (x ≡ y) ⊎ Contains xs y
  contains_cases x xs y c = contains_at x xs y c.0 c.1 c.2

  pub contains_head : (x : X) (xs : List X) → Contains (x ∷ xs) x
  contains_head x xs = (zero, omega arith, refl)

  pub contains_tail : (x : X) (xs : List X) (y : X) → Contains xs y → Contains (x ∷ xs) y
  contains_tail x xs y c = (suc c.0, omega (arith, c.1), c.2)

  pub contains_nothing : (y : X) → Contains [] y → ⊥
  contains_nothing y c = omega (arith, c.1)

  pub each_contained : (P : X → Type 0) (xs : List X) (y : X) → AllByRecursion P xs → Contains xs y → P y
  each_contained P [] y h c = absurd (contains_nothing y c)
  each_contained P (x ∷ xs) y h c = elim (contains_cases x xs y c) [
    | inl e ↦ subst P e h.0
    | inr d ↦ each_contained P xs y h.1 d
  ]

  pub each_from_contained : (P : X → Type 0) (xs : List X) → ((y : X) → Contains xs y → P y) → AllByRecursion P xs
  each_from_contained P [] h = tt
  each_from_contained P (x ∷ xs) h = (h x (contains_head x xs), each_from_contained P xs (λ y c. h y (contains_tail x xs y c)))

module _ {X : Type 0} (cmp : X → X → Ordering) (total : IsTotalOrder cmp) where
  pub not_before_itself : (x : X) → cmp x x ≡ Less → ⊥
  not_before_itself x e = let f : cmp x x ≡ ordering_reverse Less = total.antisymm x x ∙ ap ordering_reverse e in cc

  pub not_both_before : (x y : X) → cmp x y ≡ Less → cmp y x ≡ Less → ⊥
  not_both_before x y e f = not_before_itself x (total.trans x y x e f)

  same_heads : (x y : X) (xs ys : List X) → AllByRecursion (λ z. cmp x z ≡ Less) xs → AllByRecursion (λ z. cmp y z ≡ Less) ys → Contains (y ∷ ys) x → Contains (x ∷ xs) y → x ≡ y
  same_heads x y xs ys above_x above_y c d =
      elim (contains_cases y ys x c) [
        | inl e ↦ sym e
        | inr p ↦ elim (contains_cases x xs y d) [
          | inl e ↦ e
          | inr q ↦ absurd (not_both_before x y (each_contained (λ z. cmp x z ≡ Less) xs y above_x q) (each_contained (λ z. cmp y z ≡ Less) ys x above_y p))
        ]
      ]

  -- what the longer list contains besides its head, the other does too
  into_tail : (x : X) (xs ys : List X) (z : X) → AllByRecursion (λ w. cmp x w ≡ Less) xs → Contains xs z → Contains (x ∷ ys) z → Contains ys z
  into_tail x xs ys z above c d = elim (contains_cases x ys z d) [
    | inl e ↦ absurd (not_before_itself x (subst (λ w. cmp x w ≡ Less) (sym e) (each_contained (λ w. cmp x w ≡ Less) xs z above c)))
    | inr q ↦ q
  ]

  pub same_members : (xs ys : List X) → IsStrictlySortedBy cmp xs → IsStrictlySortedBy cmp ys → ((z : X) → Contains xs z → Contains ys z) → ((z : X) → Contains ys z → Contains xs z) → xs ≡ ys
  unfolding IsStrictlySortedBy
  same_members [] [] a b f g = refl
  same_members [] (y ∷ ys) a b f g = absurd (contains_nothing y (g y (contains_head y ys)))
  same_members (x ∷ xs) [] a b f g = absurd (contains_nothing x (f x (contains_head x xs)))
  same_members (x ∷ xs) (y ∷ ys) a b f g =
      let e : x ≡ y = same_heads x y xs ys a.0 b.0 (f x (contains_head x xs)) (g y (contains_head y ys)) in
      ap₂ (λ w ws. w ∷ ws) e (same_members xs ys a.1 b.1
      (λ z c. into_tail x xs ys z a.0 c (subst (λ w. Contains (w ∷ ys) z) (sym e) (f z (contains_tail x xs z c))))
      (λ z c. into_tail y ys xs z b.0 c (subst (λ w. Contains (w ∷ xs) z) e (g z (contains_tail y ys z c)))))

  pub one_list : (P : X → Type 0) (xs ys : List X) → IsListOf cmp P xs → IsListOf cmp P ys → xs ≡ ys
  one_list P xs ys h k = same_members xs ys h.ascending k.ascending
      (λ z c. (k.members z).1 ((h.members z).0 c))
      (λ z c. (h.members z).1 ((k.members z).0 c))
