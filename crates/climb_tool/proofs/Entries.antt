-- Points within their bounds, entry by entry, and vectors or their negatives.
use Rattle.std.proofs.Common.{◌≡◌, ℕ, zero, suc, ◌+◌, ◌*◌, ◌/◌, ◌<◌, ◌≤◌, List, [], ◌∷◌, ◌++◌, length, get_or, take, drop, set, refl, ap}
use Rattle.std.proofs.Common.{ap₂, sym, ◌∙◌, subst, arith, Bool, true, false, inl, inr, min, append_assoc}
use Rattle.std.specs.Prelude.{ℤ, pos, negsuc, neg_ℤ, nat_abs, int_lt, ◌+ℤ◌, ◌-ℤ◌, ◌*ℤ◌, ◌≤ℤ◌, ◌<ℤ◌, ◌↔◌}
use Rattle.std.specs.List.{AllByRecursion}
use Rattle.std.proofs.lemmas.Int.{ints, unsigned_abs-mul, fits_signed_from_abs}
use Rattle.std.proofs.lemmas.List.{drop_more, drop-set-lt}
use Rattle.std.proofs.lemmas.Grind.{drop_more_same}
use Rattle.int_vector.proofs.Sums.{sum_step, sum_done}
use Rattle.std.proofs.Math.Nat.{mul-le-mul_right, le-div_iff_mul-le}
use Rattle.std.proofs.Common.{SFits}
use mir.Syntax.{w128}
use Rattle.int_vector.specs.Range.{InRange}
use Rattle.int_vector.specs.Vectors.{norm, dot, negated, IsZero}
use Rattle.int_vector.specs.Operations.{add}
use Rattle.lift_core.proofs.Systems.{test_same}
use Rattle.system_files.proofs.Negatives.{length-negated}
use Rattle.climb_tool.specs.Paths.{IsWithinBounds, IsGreatest, times}
use Rattle.climb_tool.specs.Inside.Turns.{turned, turned_entry}

-- ---- turned vectors
pub length-turned : (b : Bool) (v : List ℤ) → length (turned b v) ≡ length v
length-turned true v = length-negated v
length-turned false v = refl

entry_negated : (v : List ℤ) (i : ℕ) (d : ℤ) → i < length v → get_or (negated v) i d ≡ neg_ℤ (get_or v i d)
entry_negated [] i d h = absurd (omega arith)
entry_negated (x ∷ v) zero d h = refl
entry_negated (x ∷ v) (suc i) d h = entry_negated v i d (omega arith)

pub entry_turned : (b : Bool) (v : List ℤ) (i : ℕ) (d : ℤ) → i < length v → get_or (turned b v) i d ≡ turned_entry b (get_or v i d)
entry_turned true v i d h = entry_negated v i d h
entry_turned false v i d h = refl

-- ---- a step of c times a vector
pub length-times : (c : ℕ) (g : List ℤ) → length (times c g) ≡ length g
length-times c [] = refl
length-times c (x ∷ g) = ap suc (length-times c g)

pub entry_times : (c : ℕ) (g : List ℤ) (i : ℕ) (d : ℤ) → i < length g → get_or (times c g) i d ≡ pos c *ℤ get_or g i d
entry_times c [] i d h = absurd (omega arith)
entry_times c (x ∷ g) zero d h = refl
entry_times c (x ∷ g) (suc i) d h = entry_times c g i d (omega arith)

pub drop-times : (c : ℕ) (g : List ℤ) (i : ℕ) → drop i (times c g) ≡ times c (drop i g)
drop-times c [] zero = refl
drop-times c [] (suc i) = refl
drop-times c (x ∷ g) zero = refl
drop-times c (x ∷ g) (suc i) = drop-times c g i

nothing_behind : (v : List ℤ) (i : ℕ) → length v ≤ i → drop i v ≡ []
nothing_behind [] zero h = refl
nothing_behind [] (suc i) h = refl
nothing_behind (x ∷ v) zero h = absurd (omega arith)
nothing_behind (x ∷ v) (suc i) h = nothing_behind v i (omega arith)

-- ---- the loop over the entries
pub within_length : (upper x : List ℤ) → IsWithinBounds upper x → length upper ≡ length x
within_length [] [] h = refl
within_length [] (a ∷ x) h = absurd h
within_length (u ∷ upper) [] h = absurd h
within_length (u ∷ upper) (a ∷ x) h = ap suc (within_length upper x h.1)

abbrev pub Fits : ℤ → ℤ → ℤ → Type 0
Fits u a g = (pos 0 ≤ℤ (a +ℤ g)) × ((a +ℤ g) ≤ℤ u)

-- what is within the bounds from place i on is the entry there, and what is behind
abbrev Behind : List ℤ → List ℤ → List ℤ → ℕ → Type 0
Behind upper x g i = IsWithinBounds (drop i upper) (add (drop i x) (drop i g))

abbrev Here : List ℤ → List ℤ → List ℤ → ℕ → ℤ → Type 0
Here upper x g i d = Fits (get_or upper i d) (get_or x i d) (get_or g i d)

first_and_others : (u a b : ℤ) (upper x g first second third : List ℤ) → first ≡ u ∷ upper → second ≡ a ∷ x → third ≡ b ∷ g →
    IsWithinBounds first (add second third) ↔ (Fits u a b × IsWithinBounds upper (add x g))
first_and_others u a b upper x g first second third e f h = rw (e, f, h) (λ w. w, λ w. w)

pub within_more : (upper x g : List ℤ) (i : ℕ) (d : ℤ) → i < length upper → length x ≡ length upper → length g ≡ length upper →
    Behind upper x g i ↔ (Here upper x g i d × Behind upper x g (i + 1))
within_more upper x g i d l m n =
    first_and_others (get_or upper i d) (get_or x i d) (get_or g i d)
    (drop (i + 1) upper) (drop (i + 1) x) (drop (i + 1) g) (drop i upper) (drop i x) (drop i g)
    (drop_more upper i d l) (drop_more x i d (omega (arith, l, m))) (drop_more g i d (omega (arith, l, n)))

pub within_end : (upper x g : List ℤ) (i : ℕ) → length upper ≤ i → length x ≡ length upper → length g ≡ length upper →
    IsWithinBounds (drop i upper) (add (drop i x) (drop i g))
within_end [] [] [] zero l e f = tt
within_end [] [] [] (suc i) l e f = tt
within_end [] (a ∷ x) g i l e f = absurd (omega arith)
within_end [] [] (b ∷ g) i l e f = absurd (omega arith)
within_end (u ∷ upper) x g zero l e f = absurd (omega arith)
within_end (u ∷ upper) [] g (suc i) l e f = absurd (omega arith)
within_end (u ∷ upper) (a ∷ x) [] (suc i) l e f = absurd (omega arith)
within_end (u ∷ upper) (a ∷ x) (b ∷ g) (suc i) l e f = within_end upper x g i (omega arith) (omega arith) (omega arith)

-- the entry of a point within the bounds
pub entry_within : (upper x : List ℤ) (i : ℕ) (d : ℤ) → i < length upper → IsWithinBounds upper x →
    (pos 0 ≤ℤ get_or x i d) × (get_or x i d ≤ℤ get_or upper i d)
entry_within [] x i d l h = absurd (omega arith)
entry_within (u ∷ upper) [] i d l h = absurd h
entry_within (u ∷ upper) (a ∷ x) zero d l h = h.0
entry_within (u ∷ upper) (a ∷ x) (suc i) d l h = entry_within upper x i d (omega arith) h.1

pub entry_of_sum : (upper x g : List ℤ) (i : ℕ) (d : ℤ) → i < length upper → length x ≡ length upper → length g ≡ length upper →
    IsWithinBounds upper (add x g) →
    Fits (get_or upper i d) (get_or x i d) (get_or g i d)
entry_of_sum [] x g i d l e f h = absurd (omega arith)
entry_of_sum (u ∷ upper) [] g i d l e f h = absurd (omega arith)
entry_of_sum (u ∷ upper) (a ∷ x) [] i d l e f h = absurd (omega arith)
entry_of_sum (u ∷ upper) (a ∷ x) (b ∷ g) zero d l e f h = h.0
entry_of_sum (u ∷ upper) (a ∷ x) (b ∷ g) (suc i) d l e f h = entry_of_sum upper x g i d (omega arith) (omega arith) (omega arith) h.1

-- ---- how often an entry can be moved
up_room : (u a : ℤ) (s d : ℕ) → pos 0 ≤ℤ a → a ≤ℤ u → 0 < s → Fits u a (pos d *ℤ pos s) ↔ (d ≤ nat_abs (u -ℤ a) / s)
up_room u a s d low high h =
    let q : (d ≤ nat_abs (u -ℤ a) / s) ↔ (d * s ≤ nat_abs (u -ℤ a)) = le-div_iff_mul-le {k = s} {x = d} {y = nat_abs (u -ℤ a)} h in
    (λ f. q.1 (below f), λ f. above (q.0 f)) where
      below : Fits u a (pos d *ℤ pos s) → d * s ≤ nat_abs (u -ℤ a)
      below f = grind (arith, ints, f, low, high)

      above : d * s ≤ nat_abs (u -ℤ a) → Fits u a (pos d *ℤ pos s)
      above f = grind (arith, ints, f, low, high)

down_room : (u a : ℤ) (s d : ℕ) → pos 0 ≤ℤ a → a ≤ℤ u → Fits u a (pos d *ℤ negsuc s) ↔ (d ≤ nat_abs a / suc s)
down_room u a s d low high =
    let q : (d ≤ nat_abs a / suc s) ↔ (d * suc s ≤ nat_abs a) = le-div_iff_mul-le {k = suc s} {x = d} {y = nat_abs a} (omega arith) in
    (λ f. q.1 (below f), λ f. above (q.0 f)) where
      below : Fits u a (pos d *ℤ negsuc s) → d * suc s ≤ nat_abs a
      below f = grind (arith, ints, f, low, high)

      above : d * suc s ≤ nat_abs a → Fits u a (pos d *ℤ negsuc s)
      above f = grind (arith, ints, f, low, high)

no_move : (u a : ℤ) (d : ℕ) → pos 0 ≤ℤ a → a ≤ℤ u → Fits u a (pos d *ℤ pos 0)
no_move u a d low high = grind (arith, ints, low, high)

pub room_up : (u a step : ℤ) (r d : ℕ) → pos 0 ≤ℤ a → a ≤ℤ u → pos 0 <ℤ step → r ≡ nat_abs (u -ℤ a) / nat_abs step → Fits u a (pos d *ℤ step) ↔ (d ≤ r)
room_up u a (pos zero) r d low high h e = absurd (grind (arith, ints, h))
room_up u a (pos (suc s)) r d low high h e = subst (λ (n : ℕ). Fits u a (pos d *ℤ pos (suc s)) ↔ (d ≤ n)) (sym e) (up_room u a (suc s) d low high (omega arith))
room_up u a (negsuc s) r d low high h e = absurd (grind (arith, ints, h))

pub room_down : (u a step : ℤ) (r d : ℕ) → pos 0 ≤ℤ a → a ≤ℤ u → step <ℤ pos 0 → r ≡ nat_abs a / nat_abs step → Fits u a (pos d *ℤ step) ↔ (d ≤ r)
room_down u a (pos s) r d low high h e = absurd (grind (arith, ints, h))
room_down u a (negsuc s) r d low high h e = subst (λ (n : ℕ). Fits u a (pos d *ℤ negsuc s) ↔ (d ≤ n)) (sym e) (down_room u a s d low high)

pub room_none : (u a step : ℤ) (d : ℕ) → pos 0 ≤ℤ a → a ≤ℤ u → (pos 0 <ℤ step → ⊥) → (step <ℤ pos 0 → ⊥) → Fits u a (pos d *ℤ step)
room_none u a (pos zero) d low high n m = no_move u a d low high
room_none u a (pos (suc s)) d low high n m = absurd (n (grind (arith, ints)))
room_none u a (negsuc s) d low high n m = absurd (m (grind (arith, ints)))

-- ---- the greatest number of times
-- a vector that is not zero cannot be added more than 2^63-1 times
product_small : (u a g : ℤ) (d : ℕ) → InRange u → pos 0 ≤ℤ a → a ≤ℤ u → Fits u a (pos d *ℤ g) → (g ≡ pos 0 → ⊥) → d ≤ 9223372036854775807
product_small u a (pos zero) d r low high f n = absurd (n refl)
product_small u a (pos (suc s)) d r low high f n =
    let q : d ≤ nat_abs (u -ℤ a) / suc s = (up_room u a (suc s) d low high (omega arith)).0 f in
    let p : d * suc s ≤ nat_abs (u -ℤ a) = (le-div_iff_mul-le {k = suc s} {x = d} {y = nat_abs (u -ℤ a)} (omega arith)).0 q in
    omega (arith, ints, p, r, low, high, least s d) where
      least : (s d : ℕ) → d ≤ d * suc s
      least s d = omega arith
product_small u a (negsuc s) d r low high f n =
    let q : d ≤ nat_abs a / suc s = (down_room u a s d low high).0 f in
    let p : d * suc s ≤ nat_abs a = (le-div_iff_mul-le {k = suc s} {x = d} {y = nat_abs a} (omega arith)).0 q in
    omega (arith, ints, p, r, low, high, least s d) where
      least : (s d : ℕ) → d ≤ d * suc s
      least s d = omega arith

pub steps_bounded : (upper x g : List ℤ) (d : ℕ) → AllByRecursion InRange upper → IsWithinBounds upper x → length g ≡ length upper →
    (IsZero g → ⊥) → IsWithinBounds upper (add x (times d g)) → d ≤ 9223372036854775807
steps_bounded [] [] [] d r w l n h = absurd (n tt)
steps_bounded [] (a ∷ x) g d r w l n h = absurd w
steps_bounded [] [] (b ∷ g) d r w l n h = absurd (omega arith)
steps_bounded (u ∷ upper) [] g d r w l n h = absurd w
steps_bounded (u ∷ upper) (a ∷ x) [] d r w l n h = absurd (omega arith)
steps_bounded (u ∷ upper) (a ∷ x) (b ∷ g) d r w l n h =
    elim (test_same b (pos 0)) [
      | inr out ↦ product_small u a b d r.0 w.0.0 w.0.1 h.0 out
      | inl e ↦ steps_bounded upper x g d r.1 w.1 (omega arith) (λ z. n (e, z)) h.1
    ]

-- ---- costs
pub cost_at : (cost : List ℤ) (i : ℕ) (d : ℤ) → i < length cost → AllByRecursion (λ c. nat_abs c ≤ 72057594037927936) cost →
    nat_abs (get_or cost i d) ≤ 72057594037927936
cost_at [] i d l h = absurd (omega arith)
cost_at (c ∷ cost) zero d l h = h.0
cost_at (c ∷ cost) (suc i) d l h = cost_at cost i d (omega arith) h.1

cost_product : (c y : ℤ) → nat_abs c ≤ 72057594037927936 → nat_abs (c *ℤ y) ≤ 72057594037927936 * nat_abs y
cost_product c y h = let m : nat_abs c * nat_abs y ≤ 72057594037927936 * nat_abs y = mul-le-mul_right (nat_abs y) h in omega (arith, unsigned_abs-mul c y)

abs-sum : (a b : ℤ) → nat_abs (a +ℤ b) ≤ nat_abs a + nat_abs b
abs-sum a b = omega (arith, ints)

pub sum_small : (s c y : ℤ) (n : ℕ) → nat_abs s ≤ 72057594037927936 * n → nat_abs c ≤ 72057594037927936 →
    nat_abs (s +ℤ (c *ℤ y)) ≤ 72057594037927936 * (n + nat_abs y)
sum_small s c y n h f = omega (arith, abs-sum s (c *ℤ y), cost_product c y f)

pub product_fits : (c y : ℤ) → nat_abs c ≤ 72057594037927936 → nat_abs y ≤ 590295810358705651712 → SFits w128 (c *ℤ y)
product_fits c y f g = fits_signed_from_abs w128 (c *ℤ y) (omega (arith, cost_product c y f))

pub sum_fits : (s c y : ℤ) (n : ℕ) → nat_abs s ≤ 72057594037927936 * n → nat_abs c ≤ 72057594037927936 →
    n + nat_abs y ≤ 590295810358705651712 → SFits w128 (s +ℤ (c *ℤ y))
sum_fits s c y n h f k = fits_signed_from_abs w128 (s +ℤ (c *ℤ y)) (omega (arith, sum_small s c y n h f))

-- the norm of a point of at most 64 entries in range
pub norm_in_range : (v : List ℤ) → AllByRecursion InRange v → norm v ≤ 9223372036854775807 * length v
norm_in_range [] h = omega arith
norm_in_range (x ∷ v) h = omega (arith, h.0, norm_in_range v h.1)

pub within_small : (upper x : List ℤ) → AllByRecursion InRange upper → IsWithinBounds upper x → AllByRecursion InRange x
within_small [] [] r h = tt
within_small [] (a ∷ x) r h = absurd h
within_small (u ∷ upper) [] r h = absurd h
within_small (u ∷ upper) (a ∷ x) r h = (small u a r.0 h.0.0 h.0.1, within_small upper x r.1 h.1) where
  small : (u a : ℤ) → InRange u → pos 0 ≤ℤ a → a ≤ℤ u → InRange a
  small u a r low high = omega (arith, ints, r, low, high)

pub entry_same : (a b : List ℤ) (i : ℕ) (d : ℤ) → drop i a ≡ drop i b → i < length a → i < length b → get_or a i d ≡ get_or b i d
entry_same a b i d e l m = ap (λ w. get_or w 0 d) (sym (drop_more a i d l) ∙ e ∙ drop_more b i d m)

-- ---- the loops over the entries of a point
pub fits_step : (upper x g : List ℤ) (i : ℕ) (t : ℤ) → i < length upper → IsWithinBounds upper x → length g ≡ length upper → t ≡ get_or g i (pos 0) →
    IsWithinBounds upper (add x g) ↔ IsWithinBounds (drop i upper) (add (drop i x) (drop i g)) → Fits (get_or upper i (pos 0)) (get_or x i (pos 0)) t →
    IsWithinBounds upper (add x g) ↔ IsWithinBounds (drop (i + 1) upper) (add (drop (i + 1) x) (drop (i + 1) g))
fits_step upper x g i t l point long is h f =
    let m = within_more upper x g i (pos 0) l (sym (within_length upper x point)) long in
    let g_fits : Fits (get_or upper i (pos 0)) (get_or x i (pos 0)) (get_or g i (pos 0)) = subst (Fits (get_or upper i (pos 0)) (get_or x i (pos 0))) is f in
    (λ w. (m.0 (h.0 w)).1, λ r. h.1 (m.1 (g_fits, r)))

pub fits_not : (upper x g : List ℤ) (i : ℕ) (t : ℤ) → i < length upper → IsWithinBounds upper x → length g ≡ length upper → t ≡ get_or g i (pos 0) →
    (Fits (get_or upper i (pos 0)) (get_or x i (pos 0)) t → ⊥) → IsWithinBounds upper (add x g) → ⊥
fits_not upper x g i t l point long is n w =
    n (subst (Fits (get_or upper i (pos 0)) (get_or x i (pos 0))) (sym is) (entry_of_sum upper x g i (pos 0) l (sym (within_length upper x point)) long w))

pub greatest_step : (upper x g : List ℤ) (i d most r new : ℕ) (t : ℤ) → i < length upper → IsWithinBounds upper x →
    length g ≡ length upper → t ≡ get_or g i (pos 0) → new ≡ min most r →
    Fits (get_or upper i (pos 0)) (get_or x i (pos 0)) (pos d *ℤ t) ↔ (d ≤ r) →
    IsWithinBounds upper (add x (times d g)) ↔ ((d ≤ most) × IsWithinBounds (drop i upper) (add (drop i x) (drop i (times d g)))) →
    IsWithinBounds upper (add x (times d g)) ↔ ((d ≤ new) × IsWithinBounds (drop (i + 1) upper) (add (drop (i + 1) x) (drop (i + 1) (times d g))))
greatest_step upper x g i d most r new t l point long is least f h =
    let m = within_more upper x (times d g) i (pos 0) l (sym (within_length upper x point)) (length-times d g ∙ long) in
    let at : get_or (times d g) i (pos 0) ≡ pos d *ℤ t = entry_times d g i (pos 0) (omega (arith, l, long)) ∙ ap (λ z. pos d *ℤ z) (sym is) in (
      λ w.
          let p = h.0 w in
          let q = m.0 p.1 in
          let k : d ≤ r = f.0 (subst (Fits (get_or upper i (pos 0)) (get_or x i (pos 0))) at q.0) in
          (omega (arith, p.0, k, least), q.1),
      λ p.
          let a : d ≤ most = omega (arith, p.0, least) in
          let b : d ≤ r = omega (arith, p.0, least) in
          h.1 (a, m.1 (subst (Fits (get_or upper i (pos 0)) (get_or x i (pos 0))) (sym at) (f.1 b), p.1)),
    )

pub greatest_end : (upper x g : List ℤ) (i most : ℕ) → length upper ≤ i → AllByRecursion InRange upper → IsWithinBounds upper x →
    length g ≡ length upper → (IsZero g → ⊥) → most ≤ 9223372036854775807 →
    ((d : ℕ) → d ≤ 9223372036854775807 → IsWithinBounds upper (add x (times d g)) ↔ ((d ≤ most) × IsWithinBounds (drop i upper) (add (drop i x)
    (drop i (times d g))))) → IsGreatest upper x g most
greatest_end upper x g i most l range point long nonzero small h = record {
  within = (h most small).1 (omega arith, within_end upper x (times most g) i l (sym (within_length upper x point)) (length-times most g ∙ long));
  most = λ d w. ((h d (steps_bounded upper x g d range point long nonzero w)).0 w).0;
}

-- a point that is moved entry by entry
pub moved_entry : (upper start t x : List ℤ) (i : ℕ) (y : ℤ) → length x ≡ length upper → IsWithinBounds upper start →
    length t ≡ length upper → i < length upper → drop i x ≡ drop i start →
    y ≡ get_or x i (pos 0) +ℤ get_or t i (pos 0) → y ≡ get_or start i (pos 0) +ℤ get_or t i (pos 0)
moved_entry upper start t x i y m point long l others is =
    is ∙ ap (λ a. a +ℤ get_or t i (pos 0)) (entry_same x start i (pos 0) others (omega (arith, m, l)) (omega (arith, within_length upper start point, l)))

pub moved_taken : (upper start t x : List ℤ) (i : ℕ) (y : ℤ) → length x ≡ length upper → IsWithinBounds upper start →
    length t ≡ length upper → i < length upper →
    take i x ≡ take i (add start t) → y ≡ get_or start i (pos 0) +ℤ get_or t i (pos 0) → take (i + 1) (set x i y) ≡ take (i + 1) (add start t)
moved_taken upper start t x i y m point long l done is =
    sum_step start t x i y (m ∙ within_length upper start point) (long ∙ within_length upper start point)
    (omega (arith, within_length upper start point, l)) done is

pub moved_others : (start x : List ℤ) (i : ℕ) (y : ℤ) → drop i x ≡ drop i start → drop (i + 1) (set x i y) ≡ drop (i + 1) start
moved_others start x i y others = drop-set-lt (i + 1) x i y (omega arith) ∙ drop_more_same x start i others

pub moved_all : (upper start t x : List ℤ) (i : ℕ) → length x ≡ length upper → IsWithinBounds upper start → length t ≡ length upper →
    length upper ≤ i → take i x ≡ take i (add start t) → x ≡ add start t
moved_all upper start t x i m point long l done =
    sum_done start t x i (m ∙ within_length upper start point) (long ∙ within_length upper start point) (omega (arith, m, l)) done

pub less_true : (a b : ℤ) → int_lt a b ≡ true → a <ℤ b
less_true a b h = grind (arith, ints, h)

pub range_at : (v : List ℤ) (i : ℕ) (d : ℤ) → i < length v → AllByRecursion InRange v → InRange (get_or v i d)
range_at [] i d l h = absurd (omega arith)
range_at (x ∷ v) zero d l h = h.0
range_at (x ∷ v) (suc i) d l h = range_at v i d (omega arith) h.1

-- ---- the cells of a step, one after another
turned_more : (b : Bool) (v : List ℤ) (i : ℕ) (d : ℤ) → i < length v → turned b (drop i v) ≡ turned_entry b (get_or v i d) ∷ turned b (drop (i + 1) v)
turned_more true v i d l = ap (turned true) (drop_more v i d l)
turned_more false v i d l = ap (turned false) (drop_more v i d l)

turned_nothing : (b : Bool) (v : List ℤ) (i : ℕ) → length v ≤ i → turned b (drop i v) ≡ []
turned_nothing true v i l = ap (turned true) (nothing_behind v i l)
turned_nothing false v i l = ap (turned false) (nothing_behind v i l)

nothing_added : (v : List ℤ) → v ++ [] ≡ v
nothing_added [] = refl
nothing_added (x ∷ v) = ap (λ w. x ∷ w) (nothing_added v)

pub cells_begun : (old first : List ℤ) (c : ℤ) (g : List ℤ) → first ≡ old ++ (c ∷ []) → first ++ g ≡ old ++ (c ∷ g)
cells_begun old first c g e = ap (λ w. w ++ g) e ∙ append_assoc old (c ∷ []) g

pub cells_pushed : (b : Bool) (v cells new whole : List ℤ) (i : ℕ) (e : ℤ) → i < length v → e ≡ turned_entry b (get_or v i (pos 0)) →
    new ≡ cells ++ (e ∷ []) →
    cells ++ turned b (drop i v) ≡ whole → new ++ turned b (drop (i + 1) v) ≡ whole
cells_pushed b v cells new whole i e l is pushed h =
    cells_begun cells new e (turned b (drop (i + 1) v)) pushed
    ∙ ap (λ z. cells ++ (z ∷ turned b (drop (i + 1) v))) is
    ∙ ap (λ w. cells ++ w) (sym (turned_more b v i (pos 0) l)) ∙ h

pub cells_done : (b : Bool) (v cells whole : List ℤ) (i : ℕ) → length v ≤ i → cells ++ turned b (drop i v) ≡ whole → cells ≡ whole
cells_done b v cells whole i l h = sym (nothing_added cells) ∙ ap (λ w. cells ++ w) (sym (turned_nothing b v i l)) ∙ h

-- ---- a turned vector in range
negated_range : (v : List ℤ) → AllByRecursion InRange v → AllByRecursion InRange (negated v)
negated_range [] h = tt
negated_range (x ∷ v) h = (same x h.0, negated_range v h.1) where
  same : (x : ℤ) → InRange x → InRange (neg_ℤ x)
  same x r = omega (arith, ints, r)

pub turned_range : (b : Bool) (v : List ℤ) → AllByRecursion InRange v → AllByRecursion InRange (turned b v)
turned_range true v h = negated_range v h
turned_range false v h = h

-- a vector of negative cost is not zero
dot_zero : (cost g : List ℤ) → IsZero g → dot cost g ≡ pos 0
dot_zero [] g z = refl
dot_zero (c ∷ cost) [] z = refl
dot_zero (c ∷ cost) (x ∷ g) z = ap₂ (λ a d. (c *ℤ a) +ℤ d) z.0 (dot_zero cost g z.1) ∙ nothing c where
  nothing : (c : ℤ) → (c *ℤ pos 0) +ℤ pos 0 ≡ pos 0
  nothing c = grind (arith, ints)

pub not_zero : (cost g : List ℤ) → dot cost g <ℤ pos 0 → IsZero g → ⊥
not_zero cost g l z = clash (dot cost g) (dot_zero cost g z) l where
  clash : (p : ℤ) → p ≡ pos 0 → p <ℤ pos 0 → ⊥
  clash p e l = grind (arith, ints)
