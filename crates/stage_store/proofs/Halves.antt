-- The listed rows that are enough to look for one below a sum of the next norm.
use Rattle.std.proofs.Common.{◌≡◌, ℕ, zero, suc, ◌+◌, ◌-◌, ◌/◌, ◌≤◌, ◌<◌, List, [], ◌∷◌, length, get_or, take, set, refl, ap, sym, ◌∙◌, subst, arith, inl, inr, Bool, false, Option, Some, None, get_or-take}
use Rattle.std.specs.Prelude.{ℤ, pos, nat_abs, MatchOption}
use Rattle.std.specs.List.{Contains}
use Rattle.std.proofs.lemmas.Bool.{cases_lt}
use Rattle.std.proofs.lemmas.Int.{ints}
use Rattle.std.proofs.lemmas.List.{take_all, length-take-le, get_or_default}
use Rattle.int_vector.specs.Vectors.{◌⊑◌, IsWithin}
use Rattle.int_vector.specs.Operations.{add}
use Rattle.int_vector.proofs.Vectors.{below_refl, below_trans}
use Rattle.row_pool.specs.declared.RowId.{RowId}
use Rattle.lift_core.specs.Stages.{stage_norm, IsPair, IsNextNorm}
use Rattle.lift_core.specs.PairSums.{HasSum, IsIrreducible}
use Rattle.lift_core.specs.Halves.{IsAdditive, size_at, IsReducible, IsReducibleByHalf}
use Rattle.lift_core.proofs.Growth.{stage_sum}
use Rattle.lift_core.proofs.Lists.{each_contained}
use Rattle.lift_core.proofs.SmallHalf.{halves_decide, norms_add, sizes_add}
use Rattle.stage_store.specs.Stage.{StageValue, IsStage, IsStageRow, IsDefined}
use Rattle.stage_store.specs.Opened.{IsFreeAtZero, IsFreeBefore, IsFreeByHalf, AreEnough}
use Rattle.stage_store.specs.declared.opened.Halves.{Halves}

-- all of them are
pub all_enough : (s : StageValue) (e count : ℕ) → count ≡ length s.listed → AreEnough s e (record { rows = count; by_x0 = false })
all_enough s e count is = λ f g pair norms sum free. elim free [
  | inl l ↦ subst (λ (l : List (List ℤ)). IsIrreducible l (add f g)) (take_all count s.listed (omega (arith, is))) l
  | inr r ↦ absurd (grind (arith, r.0))
]

-- a row that stands among the first ones
among_first : (rows : List (List ℤ)) (count : ℕ) (u : List ℤ) → count ≤ length rows → (c : Contains rows u) → c.0 < count → Contains (take count rows) u
among_first rows count u within c before = (c.0, omega (arith, length-take-le count rows within, before), get_or-take count rows c.0 u before ∙ c.2)

-- a row that is 0 in a place is below a vector with 0 there instead
within_zero : (x : ℤ) → nat_abs x ≡ 0 → IsWithin x (pos 0)
within_zero x h = grind (arith, ints)

below_at_zero : (u z : List ℤ) (j : ℕ) → u ⊑ z → size_at j u ≡ 0 → u ⊑ set z j (pos 0)
below_at_zero [] [] j h n = tt
below_at_zero [] (y ∷ z) j h n = absurd h
below_at_zero (x ∷ u) [] j h n = absurd h
below_at_zero (x ∷ u) (y ∷ z) zero h n = (within_zero x n, h.1)
below_at_zero (x ∷ u) (y ∷ z) (suc j) h n = (h.0, below_at_zero u z j h.1 n)

-- and what is below that vector is below the one that it was made of
zero_within : (y : ℤ) → IsWithin (pos 0) y
zero_within y = grind (arith, ints)

zero_below : (z : List ℤ) (j : ℕ) → set z j (pos 0) ⊑ z
zero_below [] j = tt
zero_below (y ∷ z) zero = (zero_within y, below_refl z)
zero_below (y ∷ z) (suc j) = ((below_refl (y ∷ [])).0, zero_below z j)

below_from_zero : (u z : List ℤ) (j : ℕ) → u ⊑ set z j (pos 0) → u ⊑ z
below_from_zero u z j h = below_trans u (set z j (pos 0)) z h (zero_below z j)

pub set_back : (z : List ℤ) (j : ℕ) (a y : ℤ) → y ≡ get_or z j (pos 0) → set (set z j a) j y ≡ z
set_back [] j a y h = refl
set_back (x ∷ z) zero a y h = ap (λ v. v ∷ z) h
set_back (x ∷ z) (suc j) a y h = ap (λ r. x ∷ r) (set_back z j a y h)

pub found_at_zero : (result : Option RowId) (listed : List (List ℤ)) (z : List ℤ) (j : ℕ)
    → get_or z j (pos 0) ≡ pos 1 → MatchOption result (IsIrreducible listed (set z j (pos 0))) (λ i. (i.0 < length listed) × (get_or listed i.0 [] ⊑ set z j (pos 0)))
    → MatchOption result (IsFreeAtZero listed j z) (λ i. (i.0 < length listed) × (get_or listed i.0 [] ⊑ z))
found_at_zero None listed z j one h = (one, h)
found_at_zero (Some i) listed z j one h = (h.0, below_from_zero (get_or listed i.0 []) z j h.1)

-- ---- where the lists are the defined ones, those with at most half of a measure are: the law of halves
module _ (s : StageValue) (e : ℕ) (kept : IsStage s) (defined : IsDefined s) (next : IsNextNorm s.listed s.waiting s.norm e)
    (f g : List ℤ) (pair : IsPair s.listed f g) (norms : stage_norm f + stage_norm g ≡ e) (sum : HasSum s.system.equations f g) where
  of_half : (measure : List ℤ → ℕ) → IsAdditive measure → IsReducible s.listed (add f g) → IsReducibleByHalf measure s.listed (add f g)
  of_half measure adds r =
      let one : IsStageRow s.system.equations s.number f = each_contained (IsStageRow s.system.equations s.number) s.listed f kept.listed_rows pair.first_listed in
      let two : IsStageRow s.system.equations s.number g = each_contained (IsStageRow s.system.equations s.number) s.listed g kept.listed_rows pair.second_listed in
      let z = stage_sum s.system.equations s.number f g one.vector two.vector sum in
      (halves_decide s.system.equations s.number s.norm e s.listed s.waiting defined.listed defined.waiting next measure adds (add f g) z.0 (z.1 ∙ norms)).0 r

  norm_is : stage_norm (add f g) ≡ e
  norm_is =
      let one : IsStageRow s.system.equations s.number f = each_contained (IsStageRow s.system.equations s.number) s.listed f kept.listed_rows pair.first_listed in
      let two : IsStageRow s.system.equations s.number g = each_contained (IsStageRow s.system.equations s.number) s.listed g kept.listed_rows pair.second_listed in
      (stage_sum s.system.equations s.number f g one.vector two.vector sum).1 ∙ norms

  -- by the norm: the first rows, where those behind them have more than half of it
  by_norm : (count : ℕ) → count ≤ length s.listed → ((k : ℕ) → count ≤ k → k < length s.listed → e / 2 < stage_norm (get_or s.listed k []))
      → IsFreeBefore s.listed count (add f g) → IsIrreducible s.listed (add f g)
  by_norm count within behind free = λ u c b.
      let h : IsReducibleByHalf stage_norm s.listed (add f g) = of_half stage_norm norms_add (u, c, b) in
      let at : get_or s.listed h.1.0 [] ≡ h.0 = get_or_default s.listed h.1.0 [] h.0 h.1.1 ∙ h.1.2 in
      elim (cases_lt h.1.0 count) [
        | inl l ↦ free h.0 (among_first s.listed count h.0 within h.1 l) h.2
        | inr l ↦ absurd (omega (arith, behind h.1.0 (omega (arith, l)) h.1.1, ap stage_norm at, h.3, norm_is))
      ]

  -- by an entry that is 1: the rows with 0 there
  by_entry : (j : ℕ) → IsFreeAtZero s.listed j (add f g) → IsIrreducible s.listed (add f g)
  by_entry j free = λ u c b.
      let h : IsReducibleByHalf (size_at j) s.listed (add f g) = of_half (size_at j) (sizes_add j) (u, c, b) in
      free.1 h.0 h.1 (below_at_zero h.0 (add f g) j h.2 (omega (arith, h.3, ap nat_abs free.0)))

pub half_enough : (s : StageValue) (e count : ℕ) (by_x0 : Bool) → IsStage s → IsDefined s → IsNextNorm s.listed s.waiting s.norm e → count ≤ length s.listed
    → ((k : ℕ) → count ≤ k → k < length s.listed → e / 2 < stage_norm (get_or s.listed k [])) → AreEnough s e (record { rows = count; by_x0 = by_x0 })
half_enough s e count by_x0 kept defined next within behind = λ f g pair norms sum free. elim free [
  | inl l ↦ by_norm s e kept defined next f g pair norms sum count within behind l
  | inr r ↦ by_entry s e kept defined next f g pair norms sum (length (add f g) - 2) r.1
]

-- what no row is below that is enough is irreducible
pub irreducible_by : (s : StageValue) (e : ℕ) (halves : Halves) (f g z : List ℤ) → AreEnough s e halves → IsPair s.listed f g → stage_norm f + stage_norm g ≡ e → HasSum s.system.equations f g → z ≡ add f g
    → IsFreeByHalf s.listed halves z → IsIrreducible s.listed z
irreducible_by s e halves f g z enough pair norms sum is free =
    subst (λ (v : List ℤ). IsIrreducible s.listed v) (sym is) (enough f g pair norms sum (subst (λ (v : List ℤ). IsFreeByHalf s.listed halves v) is free))
