-- What the merged list has, and that it ascends.
use Rattle.std.proofs.Common.{◌≡◌, ℕ, zero, suc, ◌+◌, ◌≤◌, ◌<◌, List, [], ◌∷◌, ◌++◌, length, get_or, drop, refl, ap, ap₂, sym, ◌∙◌, subst, arith, inl, inr, ◌⊎◌, Bool, true, false, cond, Ordering, Less, Equal, Greater}
use Rattle.std.specs.List.{Contains, filter}
use Rattle.std.specs.List.Sorted.{IsStrictlySortedBy}
use Rattle.std.specs.Cmp.{IsTotalOrder}
use Rattle.std.specs.Ordering.{is_lt, ordering_reverse}
use Rattle.std.proofs.lemmas.List.Elements.{Contains-append_left, Contains-append_right, Contains-append_cases}
use Rattle.lift_core.proofs.Lists.{contains_cases, contains_head, contains_tail, contains_nothing, each_contained, each_from_contained, not_before_itself}
use Rattle.lift_core.proofs.Orders.{in_filter, from_filter}
use Rattle.std.proofs.lemmas.Bool.{cases_Bool}
use Rattle.stage_store.specs.Merge.{merged}

lt_less : (o : Ordering) → is_lt o ≡ true → o ≡ Less
lt_less Less e = refl
lt_less Equal e = cc
lt_less Greater e = cc

less_lt : (o : Ordering) → o ≡ Less → is_lt o ≡ true
less_lt Less e = refl
less_lt Equal e = cc
less_lt Greater e = cc

module _ {X : Type 0} (cmp : X → X → Ordering) (total : IsTotalOrder cmp) (same : (x y : X) → cmp x y ≡ Equal → x ≡ y) where
  three : (x y : X) → (cmp x y ≡ Less) ⊎ ((x ≡ y) ⊎ (cmp y x ≡ Less))
  three x y = elim (cmp x y) as (λ o. cmp x y ≡ o → (cmp x y ≡ Less) ⊎ ((x ≡ y) ⊎ (cmp y x ≡ Less))) [
    | Less ↦ λ e. inl e
    | Equal ↦ λ e. inr (inl (same x y e))
    | Greater ↦ λ e. inr (inr (total.antisymm y x ∙ ap ordering_reverse e))
  ] refl

  pub from_merged : (xs ys : List X) (z : X) → Contains (merged cmp xs ys) z → Contains xs z ⊎ Contains ys z
  from_merged [] ys z c = inr c
  from_merged (x ∷ xs) ys z c = elim (Contains-append_cases (filter (λ y. is_lt (cmp y x)) ys) (x ∷ merged cmp xs (filter (λ y. is_lt (cmp x y)) ys)) z c) [
    | inl a ↦ inr (from_filter (λ y. is_lt (cmp y x)) ys z a).0
    | inr b ↦ elim (contains_cases x (merged cmp xs (filter (λ y. is_lt (cmp x y)) ys)) z b) [
      | inl e ↦ inl (subst (λ (w : X). Contains (x ∷ xs) w) e (contains_head x xs))
      | inr d ↦ elim (from_merged xs (filter (λ y. is_lt (cmp x y)) ys) z d) [
        | inl f ↦ inl (contains_tail x xs z f)
        | inr g ↦ inr (from_filter (λ y. is_lt (cmp x y)) ys z g).0
      ]
    ]
  ]

  pub first_in_merged : (xs ys : List X) (z : X) → Contains xs z → Contains (merged cmp xs ys) z
  first_in_merged [] ys z c = absurd (contains_nothing z c)
  first_in_merged (x ∷ xs) ys z c =
      Contains-append_right (filter (λ y. is_lt (cmp y x)) ys) (x ∷ merged cmp xs (filter (λ y. is_lt (cmp x y)) ys)) z
      (elim (contains_cases x xs z c) [
        | inl e ↦ subst (λ (w : X). Contains (x ∷ merged cmp xs (filter (λ y. is_lt (cmp x y)) ys)) w) e (contains_head x (merged cmp xs (filter (λ y. is_lt (cmp x y)) ys)))
        | inr d ↦ contains_tail x (merged cmp xs (filter (λ y. is_lt (cmp x y)) ys)) z (first_in_merged xs (filter (λ y. is_lt (cmp x y)) ys) z d)
      ])

  pub second_in_merged : (xs ys : List X) (z : X) → Contains ys z → Contains (merged cmp xs ys) z
  second_in_merged [] ys z c = c
  second_in_merged (x ∷ xs) ys z c = elim (three z x) [
    | inl l ↦ Contains-append_left (filter (λ y. is_lt (cmp y x)) ys) (x ∷ merged cmp xs (filter (λ y. is_lt (cmp x y)) ys)) z (in_filter (λ y. is_lt (cmp y x)) ys z c (less_lt (cmp z x) l))
    | inr (inl e) ↦ first_in_merged (x ∷ xs) ys z (subst (λ (w : X). Contains (x ∷ xs) w) (sym e) (contains_head x xs))
    | inr (inr m) ↦ Contains-append_right (filter (λ y. is_lt (cmp y x)) ys) (x ∷ merged cmp xs (filter (λ y. is_lt (cmp x y)) ys)) z
        (contains_tail x (merged cmp xs (filter (λ y. is_lt (cmp x y)) ys)) z (second_in_merged xs (filter (λ y. is_lt (cmp x y)) ys) z (in_filter (λ y. is_lt (cmp x y)) ys z c (less_lt (cmp x z) m))))
  ]

  -- two ascending lists, each of the first before each of the second
  pub ascending_append : (xs ys : List X) → IsStrictlySortedBy cmp xs → IsStrictlySortedBy cmp ys → ((x y : X) → Contains xs x → Contains ys y → cmp x y ≡ Less) → IsStrictlySortedBy cmp (xs ++ ys)
  unfolding IsStrictlySortedBy
  ascending_append [] ys s t h = t
  ascending_append (x ∷ xs) ys s t h = (
    each_from_contained (λ z. cmp x z ≡ Less) (xs ++ ys) (λ z c. elim (Contains-append_cases xs ys z c) [
      | inl a ↦ each_contained (λ z. cmp x z ≡ Less) xs z s.0 a
      | inr b ↦ h x z (contains_head x xs) b
    ]),
    ascending_append xs ys s.1 t (λ y z a b. h y z (contains_tail x xs y a) b),
  )

  pub ascending_filter : (test : X → Bool) (xs : List X) → IsStrictlySortedBy cmp xs → IsStrictlySortedBy cmp (filter test xs)
  unfolding IsStrictlySortedBy
  ascending_filter test [] s = tt
  ascending_filter test (x ∷ xs) s = elim (test x) as (λ b. test x ≡ b → IsStrictlySortedBy cmp (cond b (x ∷ filter test xs) (filter test xs))) [
    | true ↦ λ e. (each_from_contained (λ z. cmp x z ≡ Less) (filter test xs) (λ z c. each_contained (λ z. cmp x z ≡ Less) xs z s.0 (from_filter test xs z c).0), ascending_filter test xs s.1)
    | false ↦ λ e. ascending_filter test xs s.1
  ] refl

  ascending_cons : (x : X) (xs : List X) → ((z : X) → Contains xs z → cmp x z ≡ Less) → IsStrictlySortedBy cmp xs → IsStrictlySortedBy cmp (x ∷ xs)
  unfolding IsStrictlySortedBy
  ascending_cons x xs h s = (each_from_contained (λ z. cmp x z ≡ Less) xs h, s)

  head_before : (x : X) (xs : List X) (z : X) → IsStrictlySortedBy cmp (x ∷ xs) → Contains xs z → cmp x z ≡ Less
  unfolding IsStrictlySortedBy
  head_before x xs z s c = each_contained (λ z. cmp x z ≡ Less) xs z s.0 c

  tail_ascends : (x : X) (xs : List X) → IsStrictlySortedBy cmp (x ∷ xs) → IsStrictlySortedBy cmp xs
  unfolding IsStrictlySortedBy
  tail_ascends x xs s = s.1

  pub merged_ascends : (xs ys : List X) → IsStrictlySortedBy cmp xs → IsStrictlySortedBy cmp ys → IsStrictlySortedBy cmp (merged cmp xs ys)
  merged_ascends [] ys s t = t
  merged_ascends (x ∷ xs) ys s t =
      let low : List X = filter (λ y. is_lt (cmp y x)) ys in
      let rest : List X = merged cmp xs (filter (λ y. is_lt (cmp x y)) ys) in
      let after : (z : X) → Contains (merged cmp xs (filter (λ y. is_lt (cmp x y)) ys)) z → cmp x z ≡ Less = λ z c. elim (from_merged xs (filter (λ y. is_lt (cmp x y)) ys) z c) [
        | inl a ↦ head_before x xs z s a
        | inr b ↦ lt_less (cmp x z) (from_filter (λ y. is_lt (cmp x y)) ys z b).1
      ] in
      ascending_append (filter (λ y. is_lt (cmp y x)) ys) (x ∷ merged cmp xs (filter (λ y. is_lt (cmp x y)) ys)) (ascending_filter (λ y. is_lt (cmp y x)) ys t)
      (ascending_cons x (merged cmp xs (filter (λ y. is_lt (cmp x y)) ys)) after (merged_ascends xs (filter (λ y. is_lt (cmp x y)) ys) (tail_ascends x xs s) (ascending_filter (λ y. is_lt (cmp x y)) ys t)))
      (λ y z a b.
      let l : cmp y x ≡ Less = lt_less (cmp y x) (from_filter (λ y. is_lt (cmp y x)) ys y a).1 in
      elim (contains_cases x (merged cmp xs (filter (λ y. is_lt (cmp x y)) ys)) z b) [
        | inl e ↦ subst (λ (w : X). cmp y w ≡ Less) e l
        | inr d ↦ total.trans y x z l (after z d)
      ])

  -- ---- the steps of the loop
  all_after : (x : X) (ys : List X) → ((y : X) → Contains ys y → cmp x y ≡ Less) → filter (λ y. is_lt (cmp x y)) ys ≡ ys
  all_after x [] h = refl
  all_after x (y ∷ ys) h = let e : is_lt (cmp x y) ≡ true = less_lt (cmp x y) (h y (contains_head y ys)) in rw e (ap (λ l. y ∷ l) (all_after x ys (λ z c. h z (contains_tail y ys z c))))

  not_lt : (x y : X) → cmp x y ≡ Less → is_lt (cmp y x) ≡ false
  not_lt x y e = rw (total.antisymm y x ∙ ap ordering_reverse e) refl

  none_before : (x : X) (ys : List X) → ((y : X) → Contains ys y → cmp x y ≡ Less) → filter (λ y. is_lt (cmp y x)) ys ≡ []
  none_before x [] h = refl
  none_before x (y ∷ ys) h = let e : is_lt (cmp y x) ≡ false = not_lt x y (h y (contains_head y ys)) in rw e (none_before x ys (λ z c. h z (contains_tail y ys z c)))

  -- the first list's head comes first
  pub take_first : (x : X) (xs ys : List X) → ((y : X) → Contains ys y → cmp x y ≡ Less) → merged cmp (x ∷ xs) ys ≡ x ∷ merged cmp xs ys
  take_first x xs ys h = rw (none_before x ys h, all_after x ys h) refl

  -- the second's
  pub take_second : (x : X) (xs : List X) (y : X) (ys : List X) → cmp y x ≡ Less → merged cmp (x ∷ xs) (y ∷ ys) ≡ y ∷ merged cmp (x ∷ xs) ys
  take_second x xs y ys e =
      let a : is_lt (cmp y x) ≡ true = less_lt (cmp y x) e in
      let b : is_lt (cmp x y) ≡ false = not_lt y x e in
      rw (a, b) refl

  -- both, as they are the same
  pub take_both : (x : X) (xs ys : List X) → IsStrictlySortedBy cmp (x ∷ ys) → merged cmp (x ∷ xs) (x ∷ ys) ≡ x ∷ merged cmp xs ys
  take_both x xs ys s =
      let a : is_lt (cmp x x) ≡ false = elim (cases_Bool (is_lt (cmp x x))) [
        | inl t ↦ absurd (not_before_itself cmp total x (lt_less (cmp x x) t))
        | inr f ↦ f
      ] in
      rw a (take_first x xs ys (λ y c. head_before x ys y s c))

  sorted_drop : (j : ℕ) (ys : List X) → IsStrictlySortedBy cmp ys → IsStrictlySortedBy cmp (drop j ys)
  unfolding IsStrictlySortedBy
  sorted_drop zero ys s = s
  sorted_drop (suc j) [] s = s
  sorted_drop (suc j) (y ∷ ys) s = sorted_drop j ys s.1

  drop_head : (i : ℕ) (xs : List X) (d : X) → i < length xs → drop i xs ≡ get_or xs i d ∷ drop (i + 1) xs
  drop_head i [] d l = absurd (omega arith)
  drop_head zero (x ∷ xs) d l = refl
  drop_head (suc i) (x ∷ xs) d l = let n : suc i + 1 ≡ suc (i + 1) = omega arith in rw n (drop_head i xs d (omega arith))

  snoc_append : (done : List X) (x : X) (rest : List X) → done ++ (x ∷ rest) ≡ (done ++ (x ∷ [])) ++ rest
  snoc_append [] x rest = refl
  snoc_append (y ∷ done) x rest = ap (λ l. y ∷ l) (snoc_append done x rest)

  pub step_less : (done xs ys : List X) (i j : ℕ) (d : X) → IsStrictlySortedBy cmp ys → i < length xs → j < length ys → cmp (get_or xs i d) (get_or ys j d) ≡ Less
      → done ++ merged cmp (drop i xs) (drop j ys) ≡ (done ++ (get_or xs i d ∷ [])) ++ merged cmp (drop (i + 1) xs) (drop j ys)
  step_less done xs ys i j d t l m e =
      let s : IsStrictlySortedBy cmp (get_or ys j d ∷ drop (j + 1) ys) = subst (λ (v : List X). IsStrictlySortedBy cmp v) (drop_head j ys d m) (sorted_drop j ys t) in
      let after : (y : X) → Contains (drop j ys) y → cmp (get_or xs i d) y ≡ Less = λ y c. elim (contains_cases (get_or ys j d) (drop (j + 1) ys) y (subst (λ (v : List X). Contains v y) (drop_head j ys d m) c)) [
        | inl is ↦ subst (λ (w : X). cmp (get_or xs i d) w ≡ Less) is e
        | inr k ↦ total.trans (get_or xs i d) (get_or ys j d) y e (head_before (get_or ys j d) (drop (j + 1) ys) y s k)
      ] in
      ap (λ (v : List X). done ++ merged cmp v (drop j ys)) (drop_head i xs d l)
      ∙ ap (λ (v : List X). done ++ v) (take_first (get_or xs i d) (drop (i + 1) xs) (drop j ys) after)
      ∙ snoc_append done (get_or xs i d) (merged cmp (drop (i + 1) xs) (drop j ys))

  pub step_equal : (done xs ys : List X) (i j : ℕ) (d : X) → IsStrictlySortedBy cmp ys → i < length xs → j < length ys → cmp (get_or xs i d) (get_or ys j d) ≡ Equal
      → done ++ merged cmp (drop i xs) (drop j ys) ≡ (done ++ (get_or xs i d ∷ [])) ++ merged cmp (drop (i + 1) xs) (drop (j + 1) ys)
  step_equal done xs ys i j d t l m e =
      let is : get_or xs i d ≡ get_or ys j d = same (get_or xs i d) (get_or ys j d) e in
      let h : drop j ys ≡ get_or xs i d ∷ drop (j + 1) ys = drop_head j ys d m ∙ ap (λ (w : X). w ∷ drop (j + 1) ys) (sym is) in
      ap₂ (λ (u v : List X). done ++ merged cmp u v) (drop_head i xs d l) h
      ∙ ap (λ (v : List X). done ++ v) (take_both (get_or xs i d) (drop (i + 1) xs) (drop (j + 1) ys) (subst (λ (v : List X). IsStrictlySortedBy cmp v) h (sorted_drop j ys t)))
      ∙ snoc_append done (get_or xs i d) (merged cmp (drop (i + 1) xs) (drop (j + 1) ys))

  pub step_greater : (done xs ys : List X) (i j : ℕ) (d : X) → i < length xs → j < length ys → cmp (get_or xs i d) (get_or ys j d) ≡ Greater
      → done ++ merged cmp (drop i xs) (drop j ys) ≡ (done ++ (get_or ys j d ∷ [])) ++ merged cmp (drop i xs) (drop (j + 1) ys)
  step_greater done xs ys i j d l m e =
      let f : cmp (get_or ys j d) (get_or xs i d) ≡ Less = total.antisymm (get_or ys j d) (get_or xs i d) ∙ ap ordering_reverse e in
      ap₂ (λ (u v : List X). done ++ merged cmp u v) (drop_head i xs d l) (drop_head j ys d m)
      ∙ ap (λ (v : List X). done ++ v) (take_second (get_or xs i d) (drop (i + 1) xs) (get_or ys j d) (drop (j + 1) ys) f)
      ∙ snoc_append done (get_or ys j d) (merged cmp (get_or xs i d ∷ drop (i + 1) xs) (drop (j + 1) ys))
      ∙ ap (λ (v : List X). (done ++ (get_or ys j d ∷ [])) ++ merged cmp v (drop (j + 1) ys)) (sym (drop_head i xs d l))

  merged_nothing : (xs : List X) → merged cmp xs [] ≡ xs
  merged_nothing [] = refl
  merged_nothing (x ∷ xs) = ap (λ l. x ∷ l) (merged_nothing xs)

  drop_end : (i : ℕ) (xs : List X) → length xs ≤ i → drop i xs ≡ []
  drop_end zero [] l = refl
  drop_end (suc i) [] l = refl
  drop_end zero (x ∷ xs) l = absurd (omega arith)
  drop_end (suc i) (x ∷ xs) l = drop_end i xs (omega arith)

  append_nothing : (xs : List X) → xs ++ [] ≡ xs
  append_nothing [] = refl
  append_nothing (x ∷ xs) = ap (λ l. x ∷ l) (append_nothing xs)

  -- one of both is done
  pub end_first : (done xs ys : List X) (i j : ℕ) → length xs ≤ i → done ++ merged cmp (drop i xs) (drop j ys) ≡ (done ++ drop i xs) ++ drop j ys
  end_first done xs ys i j l = rw (drop_end i xs l) (ap (λ (v : List X). v ++ drop j ys) (sym (append_nothing done)))

  pub end_second : (done xs ys : List X) (i j : ℕ) → length ys ≤ j → done ++ merged cmp (drop i xs) (drop j ys) ≡ (done ++ drop i xs) ++ drop j ys
  end_second done xs ys i j l = rw (drop_end j ys l) (ap (λ (v : List X). done ++ v) (merged_nothing (drop i xs)) ∙ sym (append_nothing (done ++ drop i xs)))
