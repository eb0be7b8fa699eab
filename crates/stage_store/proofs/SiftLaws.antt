-- The laws of the sift: rows that make no irreducible sum.
use Rattle.std.proofs.Common.{◌≡◌, ℕ, zero, suc, ◌+◌, ◌^◌, ◌≤◌, ◌<◌, List, [], ◌∷◌, length, get_or, refl, sym, subst, arith, Bool, true, false, Option, None}
use Rattle.std.specs.Prelude.{ℤ, pos, ◌<ℤ◌, ◌≤ℤ◌, ◌+ℤ◌, ◌*ℤ◌, neg_ℤ, nat_abs}
use Rattle.std.proofs.lemmas.Int.{ints}
use Rattle.std.proofs.lemmas.List.Elements.{length_all_zip}
use Rattle.int_vector.specs.Vectors.{◌⊑◌, IsWithin}
use Rattle.int_vector.specs.Operations.{add, AreConformal}
use Rattle.int_vector.proofs.Vectors.{below_trans}
use Rattle.lift_core.specs.Systems.{LinearSystem}
use Rattle.lift_core.specs.Stages.{front, last}
use Rattle.stage_store.specs.Reaches.{entry_against, with_reach}
use Rattle.stage_store.specs.Signs.{IsSigned}
use Rattle.stage_store.specs.Levels.{ReachesAt, MakesNone, BarsAt, IsAgainst, IsFull}
use Rattle.stage_store.specs.SiftLaws.{ClashMakesNone, CapMakesNone, NearBars, FarMakesNone, NoneStays}
use Rattle.stage_store.proofs.Levels.{front_length, plus_turned, bars_against, bars_full, bars_near}
use Rattle.stage_store.proofs.Reaches.{first_below, second_below, against_above, against_under}

-- ---- rows that have a sum are as long
same_length : (f g : List ℤ) → AreConformal (front f) (front g) → 0 < length f → 0 < length g → length f ≡ length g
same_length f g h a b = omega (arith, front_length f a, front_length g b, length_all_zip (λ x y. pos 0 ≤ℤ (x *ℤ y)) (front f) (front g) h)

not_nothing : (positive : Bool) → IsSigned positive (pos 0) → ⊥
not_nothing true h = omega (arith, ints, h)
not_nothing false h = omega (arith, ints, h)

some_at : (positive : Bool) (v : List ℤ) (j : ℕ) → IsSigned positive (get_or v j (pos 0)) → 0 < length v
some_at positive [] j h = absurd (not_nothing positive h)
some_at positive (x ∷ v) j h = omega arith

some_last : (positive : Bool) (v : List ℤ) → IsSigned positive (last v) → 0 < length v
some_last positive [] h = absurd (not_nothing positive h)
some_last positive (x ∷ v) h = omega arith

some_against : (positive : Bool) (v : List ℤ) → IsAgainst positive (last v) → 0 < length v
some_against true v h = some_last false v h
some_against false v h = some_last true v h

-- ---- one column
one_at_least : (positive : Bool) (x : ℤ) → IsSigned positive x → 2 ^ 0 ≤ nat_abs x
one_at_least true x h = omega (arith, ints, h)
one_at_least false x h = omega (arith, ints, h)

-- what bars the least level bars each entry of the sign
none_at : (S : LinearSystem) (listed : List (List ℤ)) (f g : List ℤ) (j : ℕ) (positive : Bool) → 0 < length f → BarsAt S listed f j positive 0 → IsSigned positive (get_or g j (pos 0)) → MakesNone S listed f g
none_at S listed f g j positive some bars signed =
    let reaches : ReachesAt g j positive 0 = record { signed = signed; amount = one_at_least positive (get_or g j (pos 0)) signed } in
    let other : 0 < length g = some_at positive g j signed in
    record {
      as_first = λ z s. (bars g (sym (same_length f g s.sum.conformal some other)) reaches).as_first z s;
      as_second = λ z s. (bars g (same_length g f s.sum.conformal other some) reaches).as_second z s;
    }

full_inside : (caps : List (Option ℕ)) (j : ℕ) (x : ℤ) → IsFull (get_or caps j None) x → j < length caps
full_inside [] j x h = absurd h
full_inside (c ∷ caps) zero x h = omega arith
full_inside (c ∷ caps) (suc j) x h = let r = full_inside caps j x h in omega (arith, r)

pub clash : ClashMakesNone
clash = λ S listed f g j positive inside a s. none_at S listed f g j positive (omega (arith, inside)) (bars_against S listed f j positive 0 inside a) s

pub caps : CapMakesNone
caps = λ S listed f g j positive inside full side s.
    let bars : BarsAt S listed f j positive 0 = bars_full S listed f j positive 0 inside (get_or S.caps j None) (full_inside S.caps j (get_or f j (pos 0)) full) refl side full in
    none_at S listed f g j positive (omega (arith, inside)) bars s

pub near : NearBars
near = λ S listed f j positive level inside h. bars_near S listed f j positive level inside h

-- ---- the last column
within_above : (x y : ℤ) (r : ℕ) → x <ℤ pos 0 → pos 0 <ℤ y → nat_abs x + r ≤ nat_abs y → IsWithin (pos r) (x +ℤ y)
within_above x y r p q h = grind (arith, ints)

within_under : (x y : ℤ) (r : ℕ) → pos 0 <ℤ x → y <ℤ pos 0 → nat_abs x + r ≤ nat_abs y → IsWithin (neg_ℤ (pos r)) (x +ℤ y)
within_under x y r p q h = grind (arith, ints)

within_far : (positive : Bool) (x y : ℤ) (r : ℕ) → IsAgainst positive x → IsSigned positive y → nat_abs x + r ≤ nat_abs y → IsWithin (entry_against x r) (x +ℤ y)
within_far true x y r a s h = subst (λ (e : ℤ). IsWithin e (x +ℤ y)) (sym (against_under x r a)) (within_above x y r a s h)
within_far false x y r a s h = subst (λ (e : ℤ). IsWithin e (x +ℤ y)) (sym (against_above x r a)) (within_under x y r a s h)

pub far : FarMakesNone
far = λ S listed f g r positive a s h u.
    let some : 0 < length f = some_against positive f a in
    let other : 0 < length g = some_last positive g s in
    let w : IsWithin (entry_against (last f) r) (last f +ℤ last g) = within_far positive (last f) (last g) r a s h in
    record {
      as_first = λ z t.
          let b : with_reach f r ⊑ add f g = first_below f g r (same_length f g t.sum.conformal some other) t.sum.conformal w in
          t.irreducible u.0 u.1 (subst (λ (y : List ℤ). u.0 ⊑ y) (sym t.is) (below_trans u.0 (with_reach f r) (add f g) u.2 b));
      as_second = λ z t.
          let v : IsWithin (entry_against (last f) r) (last g +ℤ last f) = subst (λ (e : ℤ). IsWithin (entry_against (last f) r) e) (plus_turned (last f) (last g)) w in
          let b : with_reach f r ⊑ add g f = second_below g f r (same_length g f t.sum.conformal other some) t.sum.conformal v in
          t.irreducible u.0 u.1 (subst (λ (y : List ℤ). u.0 ⊑ y) (sym t.is) (below_trans u.0 (with_reach f r) (add g f) u.2 b));
    }

-- ---- more rows
pub stays : NoneStays
stays = λ S listed more f g up h. record {
  as_first = λ z s. h.as_first z (record { sum = s.sum; is = s.is; irreducible = λ u c w. s.irreducible u (up u c) w });
  as_second = λ z s. h.as_second z (record { sum = s.sum; is = s.is; irreducible = λ u c w. s.irreducible u (up u c) w });
}
