-- The least number above d of two sets, and of the norms of pairs.
use Rattle.std.proofs.Common.{◌≡◌, ℕ, ◌+◌, ◌-◌, ◌≤◌, ◌<◌, List, length, refl, ap, sym, ◌∙◌, subst, arith, inl, inr, ◌⊎◌}
use Rattle.std.specs.Prelude.{Option, Some, None}
use Rattle.std.proofs.lemmas.Bool.{cases_lt, cases_eq, le-leb, lt-leb}
use Rattle.std.specs.List.Sorted.{IsStrictlySortedBy}
use Rattle.stage_store.specs.Classes.{ClassValue, class_cmp, norm_at}
use Rattle.stage_store.specs.Least.{IsLeastAbove, lesser_lem, HasNorm, HasPairNorm}
use Rattle.stage_store.proofs.Classes.{sorted_at, IsPlaceFrom}

module _ (P Q : ℕ → Type 0) (d : ℕ) where
  -- the same set
  pub least_same : (x : Option ℕ) → ((n : ℕ) → P n → Q n) → ((n : ℕ) → Q n → P n) → IsLeastAbove P d x → IsLeastAbove Q d x
  least_same None f g h = λ n l q. h n l (g n q)
  least_same (Some e) f g h = record { above = h.above; member = f e h.member; least = λ n l q. h.least n l (g n q) }

  -- both sets
  pub least_both : (x y : Option ℕ) → IsLeastAbove P d x → IsLeastAbove Q d y → IsLeastAbove (λ n. P n ⊎ Q n) d (lesser_lem x y)
  least_both None None h k = λ n l p. elim p [ inl a ↦ h n l a | inr b ↦ k n l b ]
  least_both None (Some y) h k = record { above = k.above; member = inr k.member; least = λ n l p. elim p [ inl a ↦ absurd (h n l a) | inr b ↦ k.least n l b ] }
  least_both (Some x) None h k = record { above = h.above; member = inl h.member; least = λ n l p. elim p [ inl a ↦ h.least n l a | inr b ↦ absurd (k n l b) ] }
  least_both (Some x) (Some y) h k = elim (cases_lt y x) [
    | inl l ↦ rw (lt-leb x y l) (record { above = k.above; member = inr k.member; least = λ n m p. elim p [ inl a ↦ omega (arith, l, h.least n m a) | inr b ↦ k.least n m b ] })
    | inr l ↦ rw (le-leb x y l) (record { above = h.above; member = inl h.member; least = λ n m p. elim p [ inl a ↦ h.least n m a | inr b ↦ omega (arith, l, k.least n m b) ] })
  ]

-- the class at a place where a search for d + 1 stopped
pub norm_found : (cs : List ClassValue) (d place : ℕ) → IsStrictlySortedBy class_cmp cs → IsPlaceFrom cs (d + 1) place → place < length cs → IsLeastAbove (HasNorm cs) d (Some (norm_at cs place))
norm_found cs d place s p l = record {
  above = omega (arith, p.from place (omega arith) l);
  member = record { place = place; inside = l; norm_is = refl };
  least = λ n m h. elim (cases_lt place h.place) [
    | inl after ↦ omega (arith, sorted_at cs place h.place s after h.inside, h.norm_is)
    | inr upto ↦ elim (cases_eq h.place place) [
      | inl same ↦ omega (arith, ap (norm_at cs) same, h.norm_is)
      | inr other ↦ omega (arith, p.before h.place (omega (arith, upto, other)), h.norm_is, m)
    ]
  ];
}

-- the norms of pairs whose first is the class at place i
pub record HasNormWith (plus minus : List ClassValue) (i n : ℕ) : Type 0 where
  pub two : ℕ
  pub inside_two : two < length minus
  pub norm_is : norm_at plus i + norm_at minus two ≡ n

pub with_class : (plus minus : List ClassValue) (d i : ℕ) → norm_at plus i ≤ d → (m : ℕ) → IsLeastAbove (HasNorm minus) (d - norm_at plus i) (Some m) → IsLeastAbove (HasNormWith plus minus i) d (Some (norm_at plus i + m))
with_class plus minus d i small m h = record {
  above = omega (arith, h.above, small);
  member = record { two = h.member.place; inside_two = h.member.inside; norm_is = omega (arith, h.member.norm_is) };
  least = λ n l k. omega (arith, k.norm_is, h.least (norm_at minus k.two) (omega (arith, k.norm_is, l, small)) (record { place = k.two; inside = k.inside_two; norm_is = refl }));
}

pub without_class : (plus minus : List ClassValue) (d i : ℕ) → norm_at plus i ≤ d → IsLeastAbove (HasNorm minus) (d - norm_at plus i) None → IsLeastAbove (HasNormWith plus minus i) d None
without_class plus minus d i small h = λ n l k. h (norm_at minus k.two) (omega (arith, k.norm_is, l, small)) (record { place = k.two; inside = k.inside_two; norm_is = refl })

-- one class more
pub one_more : (plus minus : List ClassValue) (d i : ℕ) (x y : Option ℕ) → i < length plus → IsLeastAbove (HasPairNorm plus minus i) d x → IsLeastAbove (HasNormWith plus minus i) d y → IsLeastAbove (HasPairNorm plus minus (i + 1)) d (lesser_lem x y)
one_more plus minus d i x y l h k =
    least_same (λ n. HasPairNorm plus minus i n ⊎ HasNormWith plus minus i n) (HasPairNorm plus minus (i + 1)) d (lesser_lem x y)
    (λ n p. elim p [
      | inl a ↦ record { one = a.one; two = a.two; before = omega (arith, a.before); inside_one = a.inside_one; inside_two = a.inside_two; norm_is = a.norm_is }
      | inr b ↦ record { one = i; two = b.two; before = omega arith; inside_one = l; inside_two = b.inside_two; norm_is = b.norm_is }
    ])
    (λ n p. elim (cases_eq p.one i) [
      | inl same ↦ inr (record { two = p.two; inside_two = p.inside_two; norm_is = ap (λ j. norm_at plus j + norm_at minus p.two) (sym same) ∙ p.norm_is })
      | inr other ↦ inl (record { one = p.one; two = p.two; before = omega (arith, p.before, other); inside_one = p.inside_one; inside_two = p.inside_two; norm_is = p.norm_is })
    ])
    (least_both (HasPairNorm plus minus i) (HasNormWith plus minus i) d x y h k)

pub lesser_none : (x : Option ℕ) → lesser_lem x None ≡ x
lesser_none None = refl
lesser_none (Some x) = refl

pub all_classes : (plus minus : List ClassValue) (d i : ℕ) (x : Option ℕ) → length plus ≤ i → IsLeastAbove (HasPairNorm plus minus i) d x → IsLeastAbove (HasPairNorm plus minus (length plus)) d x
all_classes plus minus d i x l h = least_same (HasPairNorm plus minus i) (HasPairNorm plus minus (length plus)) d x
    (λ n p. record { one = p.one; two = p.two; before = p.inside_one; inside_one = p.inside_one; inside_two = p.inside_two; norm_is = p.norm_is })
    (λ n p. record { one = p.one; two = p.two; before = omega (arith, p.inside_one, l); inside_one = p.inside_one; inside_two = p.inside_two; norm_is = p.norm_is })
    h

-- the loop's step
pub step_some : (plus minus : List ClassValue) (d i : ℕ) (x a r : Option ℕ) (n m : ℕ) → i < length plus → n ≡ norm_at plus i → norm_at plus i ≤ d → IsLeastAbove (HasNorm minus) (d - n) a → a ≡ Some m → IsLeastAbove (HasPairNorm plus minus i) d x → r ≡ lesser_lem x (Some (n + m)) → IsLeastAbove (HasPairNorm plus minus (i + 1)) d r
step_some plus minus d i x a r n m l is small h e k result =
    let f : IsLeastAbove (HasNorm minus) (d - norm_at plus i) (Some m) = subst (λ j. IsLeastAbove (HasNorm minus) (d - j) (Some m)) is (subst (λ y. IsLeastAbove (HasNorm minus) (d - n) y) e h) in
    let s : lesser_lem x (Some (norm_at plus i + m)) ≡ r = sym (result ∙ ap (λ j. lesser_lem x (Some (j + m))) is) in
    subst (λ y. IsLeastAbove (HasPairNorm plus minus (i + 1)) d y) s (one_more plus minus d i x (Some (norm_at plus i + m)) l k (with_class plus minus d i small m f))

pub step_none : (plus minus : List ClassValue) (d i : ℕ) (x a r : Option ℕ) (n : ℕ) → i < length plus → n ≡ norm_at plus i → norm_at plus i ≤ d → IsLeastAbove (HasNorm minus) (d - n) a → a ≡ None → IsLeastAbove (HasPairNorm plus minus i) d x → r ≡ x → IsLeastAbove (HasPairNorm plus minus (i + 1)) d r
step_none plus minus d i x a r n l is small h e k result =
    let f : IsLeastAbove (HasNorm minus) (d - norm_at plus i) None = subst (λ j. IsLeastAbove (HasNorm minus) (d - j) None) is (subst (λ y. IsLeastAbove (HasNorm minus) (d - n) y) e h) in
    let s : lesser_lem x None ≡ r = lesser_none x ∙ sym result in
    subst (λ y. IsLeastAbove (HasPairNorm plus minus (i + 1)) d y) s (one_more plus minus d i x None l k (without_class plus minus d i small f))
