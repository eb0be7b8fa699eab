-- The levels that a row bars: a partner that reaches one of them makes no irreducible sum with it.
use Rattle.std.proofs.Common.{◌≡◌, ℕ, zero, suc, ◌+◌, ◌/◌, ◌%◌, ◌^◌, ◌≤◌, ◌<◌, List, [], ◌∷◌, ◌++◌, length, get_or, set, refl, ap, sym, ◌∙◌, subst, subst₂, arith, inl, inr, Bool, true, false, Option, Some, None}
use Rattle.std.specs.Prelude.{ℤ, pos, ◌<ℤ◌, ◌≤ℤ◌, ◌+ℤ◌, ◌-ℤ◌, ◌*ℤ◌, neg_ℤ, nat_abs, int_lt, cond, not}
use Rattle.std.specs.List.{Contains, AllZip}
use Rattle.std.proofs.lemmas.Bool.{cases_eq, cases_Bool}
use Rattle.std.proofs.lemmas.Int.{ints}
use Rattle.std.proofs.lemmas.List.{get_or-set_same, get_or-set_other, length-set}
use Rattle.std.proofs.lemmas.List.Elements.{Contains-append_left, Contains-get_or, AllZip-get_or}
use Rattle.int_vector.specs.Vectors.{◌⊑◌, IsWithin}
use Rattle.int_vector.specs.Operations.{add, AreConformal}
use Rattle.int_vector.proofs.Vectors.{below_trans}
use Rattle.lift_core.specs.Systems.{LinearSystem, ObeysCaps}
use Rattle.lift_core.specs.Columns.{IsCapped}
use Rattle.lift_core.specs.Stages.{front, last}
use Rattle.stage_store.specs.Signs.{IsSigned}
use Rattle.stage_store.specs.Reaches.{entry_against, with_reach}
use Rattle.stage_store.specs.Lines.{IsSaid, IsSaidLevel}
use Rattle.stage_store.specs.Levels.{ReachesAt, MakesNone, BarsAt, BarsLine, ReachesLine, AreTrue, AreTrueTo, IsOnSide, IsAgainst, IsFull, IsRaised, IsNear, IsNearOr, IsBarLevel, IsReachLevel, is_plus}
use Rattle.stage_store.proofs.Reaches.{first_below, second_below}

-- ---- single entries
-- 0 is within each number
nothing_within : (x y : ℤ) → IsWithin (entry_against x 0) y
nothing_within x y = elim (cases_Bool (int_lt (pos 0) x)) [
  | inl t ↦ subst (λ (e : ℤ). IsWithin e y) (sym (ap (λ b. cond b (neg_ℤ (pos 0)) (pos 0)) t)) (zero_within y)
  | inr t ↦ subst (λ (e : ℤ). IsWithin e y) (sym (ap (λ b. cond b (neg_ℤ (pos 0)) (pos 0)) t)) (zero_within y)
]
  where
    zero_within : (y : ℤ) → IsWithin (pos 0) y
    zero_within y = grind (arith, ints)

pub raised_by : (x : ℤ) (m level : ℕ) → pos 0 ≤ℤ x → m ≤ 2 ^ level → IsRaised true level x (x +ℤ pos m)
raised_by x m level side most = λ a s l. up x a m side s (omega (arith, l, most))
  where
    up : (x a : ℤ) (m : ℕ) → pos 0 ≤ℤ x → pos 0 <ℤ a → m ≤ nat_abs a → IsWithin (x +ℤ pos m) (x +ℤ a)
    up x a m p q l = grind (arith, ints)

pub lowered_by : (x : ℤ) (m level : ℕ) → x ≤ℤ pos 0 → m ≤ 2 ^ level → IsRaised false level x (x -ℤ pos m)
lowered_by x m level side most = λ a s l. down x a m side s (omega (arith, l, most))
  where
    down : (x a : ℤ) (m : ℕ) → x ≤ℤ pos 0 → a <ℤ pos 0 → m ≤ nat_abs a → IsWithin (x -ℤ pos m) (x +ℤ a)
    down x a m p q l = grind (arith, ints)

pub raised_none : (x : ℤ) (level : ℕ) → pos 0 ≤ℤ x → IsRaised true level x x
raised_none x level side = λ a s l. up x a side s
  where
    up : (x a : ℤ) → pos 0 ≤ℤ x → pos 0 <ℤ a → IsWithin x (x +ℤ a)
    up x a p q = grind (arith, ints)

pub lowered_none : (x : ℤ) (level : ℕ) → x ≤ℤ pos 0 → IsRaised false level x x
lowered_none x level side = λ a s l. down x a side s
  where
    down : (x a : ℤ) → x ≤ℤ pos 0 → a <ℤ pos 0 → IsWithin x (x +ℤ a)
    down x a p q = grind (arith, ints)

-- the sum of an entry and one against it has opposite signs
opposed_entries : (positive : Bool) (x y : ℤ) → IsAgainst positive x → IsSigned positive y → pos 0 ≤ℤ (x *ℤ y) → ⊥
opposed_entries true x y a s h = grind (arith, ints)
opposed_entries false x y a s h = grind (arith, ints)

opposed_turned : (positive : Bool) (x y : ℤ) → IsAgainst positive x → IsSigned positive y → pos 0 ≤ℤ (y *ℤ x) → ⊥
opposed_turned true x y a s h = grind (arith, ints)
opposed_turned false x y a s h = grind (arith, ints)

-- the sum of a full entry and another of its side is above the cap
over_cap : (positive : Bool) (c : ℕ) (x y : ℤ) → IsOnSide positive x → c ≤ nat_abs x → IsSigned positive y → nat_abs (x +ℤ y) ≤ c → ⊥
over_cap true c x y o f s h = omega (arith, ints, o, f, s, h)
over_cap false c x y o f s h = omega (arith, ints, o, f, s, h)

-- ---- columns
pub set_below : (u v : List ℤ) (j : ℕ) (r : ℤ) → u ⊑ v → IsWithin r (get_or v j (pos 0)) → set u j r ⊑ v
set_below [] [] j r h w = tt
set_below [] (y ∷ v) j r h w = h
set_below (x ∷ u) [] j r h w = absurd h
set_below (x ∷ u) (y ∷ v) zero r h w = (w, h.1)
set_below (x ∷ u) (y ∷ v) (suc j) r h w = (h.0, set_below u v j r h.1 w)

pub sum_at : (u v : List ℤ) (j : ℕ) → length u ≡ length v → j < length u → get_or (add u v) j (pos 0) ≡ (get_or u j (pos 0) +ℤ get_or v j (pos 0))
sum_at [] v j n l = absurd (omega (arith, l))
sum_at (x ∷ u) [] j n l = absurd (omega arith)
sum_at (x ∷ u) (y ∷ v) zero n l = refl
sum_at (x ∷ u) (y ∷ v) (suc j) n l = sum_at u v j (omega arith) (omega arith)

front_at : (u : List ℤ) (j : ℕ) → j + 1 < length u → get_or (front u) j (pos 0) ≡ get_or u j (pos 0)
front_at [] j l = absurd (omega arith)
front_at (x ∷ []) j l = absurd (omega arith)
front_at (x ∷ y ∷ u) zero l = refl
front_at (x ∷ y ∷ u) (suc j) l = front_at (y ∷ u) j (omega arith)

pub front_length : (u : List ℤ) → 0 < length u → length (front u) + 1 ≡ length u
front_length [] l = absurd (omega arith)
front_length (x ∷ []) l = refl
front_length (x ∷ y ∷ u) l = let r = front_length (y ∷ u) (omega arith) in omega (arith, r)

pub plus_turned : (x y : ℤ) → (x +ℤ y) ≡ (y +ℤ x)
plus_turned x y = omega (arith, ints)

zip_at : (caps : List (Option ℕ)) (v : List ℤ) (j : ℕ) → AllZip IsCapped caps v → j < length caps → IsCapped (get_or caps j None) (get_or v j (pos 0))
zip_at [] v j h l = absurd (omega (arith, l))
zip_at (c ∷ caps) [] j h l = absurd h
zip_at (c ∷ caps) (x ∷ v) zero h l = h.0
zip_at (c ∷ caps) (x ∷ v) (suc j) h l = zip_at caps v j h.1 (omega arith)

-- ---- the three reasons
module _ (S : LinearSystem) (listed : List (List ℤ)) (f : List ℤ) (j : ℕ) (positive : Bool) (level : ℕ) (inside : j + 1 < length f) where
  -- the product of the entries of two conformal rows
  product_at : (u v : List ℤ) → length u ≡ length v → j + 1 < length u → AreConformal (front u) (front v) → pos 0 ≤ℤ (get_or u j (pos 0) *ℤ get_or v j (pos 0))
  product_at u v n l h =
      let p : pos 0 ≤ℤ (get_or (front u) j (pos 0) *ℤ get_or (front v) j (pos 0)) = AllZip-get_or (λ s t. pos 0 ≤ℤ (s *ℤ t)) (front u) (front v) j (pos 0) (pos 0) h (omega (arith, front_length u (omega (arith, l)), l)) in
      subst₂ (λ (s t : ℤ). pos 0 ≤ℤ (s *ℤ t)) (front_at u j l) (front_at v j (omega (arith, l, n))) p

  pub bars_against : IsAgainst positive (get_or f j (pos 0)) → BarsAt S listed f j positive level
  bars_against a = λ g n r. record {
    as_first = λ z s. opposed_entries positive (get_or f j (pos 0)) (get_or g j (pos 0)) a r.signed (product_at f g (sym n) inside s.sum.conformal);
    as_second = λ z s. opposed_turned positive (get_or f j (pos 0)) (get_or g j (pos 0)) a r.signed (product_at g f n (omega (arith, inside, n)) s.sum.conformal);
  }

  pub bars_near : IsNear listed f j positive level → BarsAt S listed f j positive level
  bars_near h = λ g n r.
      let w : IsWithin h.entry (get_or f j (pos 0) +ℤ get_or g j (pos 0)) = h.raised (get_or g j (pos 0)) r.signed r.amount in
      let u = h.reduced in
      record {
        as_first = λ z s.
            let b : with_reach f 0 ⊑ add f g = first_below f g 0 (sym n) s.sum.conformal (nothing_within (last f) (last f +ℤ last g)) in
            let e : get_or (add f g) j (pos 0) ≡ (get_or f j (pos 0) +ℤ get_or g j (pos 0)) = sum_at f g j (sym n) (omega (arith, inside)) in
            let p : set (with_reach f 0) j h.entry ⊑ add f g = set_below (with_reach f 0) (add f g) j h.entry b (subst (λ (y : ℤ). IsWithin h.entry y) (sym e) w) in
            s.irreducible u.0 u.1 (subst (λ (y : List ℤ). u.0 ⊑ y) (sym s.is) (below_trans u.0 (set (with_reach f 0) j h.entry) (add f g) u.2 p));
        as_second = λ z s.
            let b : with_reach f 0 ⊑ add g f = second_below g f 0 n s.sum.conformal (nothing_within (last f) (last g +ℤ last f)) in
            let e : get_or (add g f) j (pos 0) ≡ (get_or f j (pos 0) +ℤ get_or g j (pos 0)) = sum_at g f j n (omega (arith, inside, n)) ∙ plus_turned (get_or g j (pos 0)) (get_or f j (pos 0)) in
            let p : set (with_reach f 0) j h.entry ⊑ add g f = set_below (with_reach f 0) (add g f) j h.entry b (subst (λ (y : ℤ). IsWithin h.entry y) (sym e) w) in
            s.irreducible u.0 u.1 (subst (λ (y : List ℤ). u.0 ⊑ y) (sym s.is) (below_trans u.0 (set (with_reach f 0) j h.entry) (add g f) u.2 p));
      }

  -- the entry of a sum that obeys the caps
  capped_at : (u v : List ℤ) (c : ℕ) → length u ≡ length v → j + 1 < length u → j < length S.caps → get_or S.caps j None ≡ Some c → ObeysCaps S (front (add u v)) → nat_abs (get_or u j (pos 0) +ℤ get_or v j (pos 0)) ≤ c
  capped_at u v c n l inside_caps e h =
      let q : IsCapped (get_or S.caps j None) (get_or (front (add u v)) j (pos 0)) = zip_at S.caps (front (add u v)) j h inside_caps in
      let r : IsCapped (Some c) (get_or (front (add u v)) j (pos 0)) = subst (λ (o : Option ℕ). IsCapped o (get_or (front (add u v)) j (pos 0))) e q in
      subst (λ (x : ℤ). nat_abs x ≤ c) (front_at (add u v) j (omega (arith, add_length u v n, l)) ∙ sum_at u v j n (omega (arith, l))) r
    where
      add_length : (u v : List ℤ) → length u ≡ length v → length (add u v) ≡ length u
      add_length [] v n = refl
      add_length (x ∷ u) [] n = absurd (omega arith)
      add_length (x ∷ u) (y ∷ v) n = let r = add_length u v (omega arith) in omega (arith, r)

  pub bars_full : (o : Option ℕ) → j < length S.caps → get_or S.caps j None ≡ o → IsOnSide positive (get_or f j (pos 0)) → IsFull o (get_or f j (pos 0)) → BarsAt S listed f j positive level
  bars_full None l e side full = absurd full
  bars_full (Some c) l e side full = λ g n r. record {
    as_first = λ z s. over_cap positive c (get_or f j (pos 0)) (get_or g j (pos 0)) side full r.signed (capped_at f g c (sym n) inside l e s.sum.caps);
    as_second = λ z s. over_cap positive c (get_or f j (pos 0)) (get_or g j (pos 0)) side full r.signed
        (subst (λ (x : ℤ). nat_abs x ≤ c) (plus_turned (get_or g j (pos 0)) (get_or f j (pos 0))) (capped_at g f c n (omega (arith, inside, n)) l e s.sum.caps));
  }

-- ---- higher levels
power_grows : (k l : ℕ) → k ≤ l → 2 ^ k ≤ 2 ^ l
power_grows zero zero h = omega arith
power_grows zero (suc l) h = let r = power_grows zero l (omega arith) in omega (arith, r)
power_grows (suc k) zero h = absurd (omega arith)
power_grows (suc k) (suc l) h = let r = power_grows k l (omega arith) in omega (arith, r)

pub bars_above : (S : LinearSystem) (listed : List (List ℤ)) (f : List ℤ) (j : ℕ) (positive : Bool) (k l : ℕ) → k ≤ l → BarsAt S listed f j positive k → BarsAt S listed f j positive l
bars_above S listed f j positive k l up h = λ g n r. h g n (record { signed = r.signed; amount = omega (arith, power_grows k l up, r.amount) })

pub level_near : (S : LinearSystem) (listed : List (List ℤ)) (f : List ℤ) (j : ℕ) (positive : Bool) (level : ℕ) → j + 1 < length f → IsNearOr listed f j positive level → IsBarLevel S listed f j positive level
level_near S listed f j positive level inside h = λ l small up. bars_above S listed f j positive level l up (bars_near S listed f j positive level inside (h (omega (arith, small, up))))

pub reach_lower : (v : List ℤ) (j : ℕ) (positive : Bool) (level : ℕ) → ((l : ℕ) → l < level → IsSigned positive (get_or v j (pos 0)) × (2 ^ l ≤ nat_abs (get_or v j (pos 0)))) → IsReachLevel v j positive level
reach_lower v j positive level h = λ l small. let r = h l small in record { signed = r.0; amount = r.1 }

-- ---- one item written
-- what an item is written to say is true, and so is what the levels said of the others
module _ (P : ℕ → Type 0) (upper : Bool) (levels : List ℕ) (k level : ℕ) (inside : k < length levels) (here : (l : ℕ) → l < 8 → IsSaidLevel upper level l → (m : ℕ) → m / 8 ≡ k → m % 8 ≡ l → P m) where
  true_written : (m : ℕ) → IsSaid upper (set levels k level) m → ((m / 8 ≡ k → ⊥) → IsSaid upper levels m → P m) → P m
  true_written m said others = elim (cases_eq (m / 8) k) [
    | inl e ↦
        let at : get_or (set levels k level) (m / 8) 0 ≡ level = ap (λ n. get_or (set levels k level) n 0) e ∙ get_or-set_same levels k level 0 inside in
        here (m % 8) (omega arith) (subst (λ n. IsSaidLevel upper n (m % 8)) at said) m e refl
    | inr d ↦
        let at : get_or (set levels k level) (m / 8) 0 ≡ get_or levels (m / 8) 0 = get_or-set_other levels k (m / 8) level 0 d in
        others d (subst (λ n. IsSaidLevel upper n (m % 8)) at said)
  ]

  -- behind the first k items
  pub true_more : AreTrueTo k P upper levels → AreTrueTo (k + 1) P upper (set levels k level)
  true_more before = λ m small said. true_written m said (λ d. before m (omega (arith, small, d)))

  -- among all of them, anew
  pub true_again : AreTrue P upper levels → AreTrue P upper (set levels k level)
  true_again before = λ m small said. true_written m said (λ d. before m (omega (arith, small, length-set levels k level)))

pub bar_item : (S : LinearSystem) (listed : List (List ℤ)) (f : List ℤ) (k level : ℕ) → IsBarLevel S listed f (k / 2) (is_plus k) level
    → (l : ℕ) → l < 8 → IsSaidLevel true level l → (m : ℕ) → m / 8 ≡ k → m % 8 ≡ l → BarsLine S listed f m
bar_item S listed f k level h l small said m a b = subst₂ (λ (i n : ℕ). BarsAt S listed f (i / 2) (is_plus i) n) (sym a) (sym b) (h l small said)

pub reach_item : (f : List ℤ) (k level : ℕ) → IsReachLevel f (k / 2) (is_plus k) level → (l : ℕ) → l < 8 → IsSaidLevel false level l → (m : ℕ) → m / 8 ≡ k → m % 8 ≡ l → ReachesLine f m
reach_item f k level h l small said m a b = subst₂ (λ (i n : ℕ). ReachesAt f (i / 2) (is_plus i) n) (sym a) (sym b) (h l said)

-- ---- more rows
pub bars_stay : (S : LinearSystem) (listed new : List (List ℤ)) (f : List ℤ) (j : ℕ) (positive : Bool) (level : ℕ) → BarsAt S listed f j positive level → BarsAt S (listed ++ new) f j positive level
bars_stay S listed new f j positive level h = λ g n r.
    let m : MakesNone S listed f g = h g n r in
    record {
      as_first = λ z s. m.as_first z (record { sum = s.sum; is = s.is; irreducible = λ u c w. s.irreducible u (Contains-append_left listed new u c) w });
      as_second = λ z s. m.as_second z (record { sum = s.sum; is = s.is; irreducible = λ u c w. s.irreducible u (Contains-append_left listed new u c) w });
    }

-- ---- a listed row
pub row_contained : (listed : List (List ℤ)) (i : ℕ) (r : List ℤ) → i < length listed → r ≡ get_or listed i [] → Contains listed r
row_contained listed i r l e = subst (λ (x : List ℤ). Contains listed x) (sym e) (Contains-get_or listed i [] l)

pub against_other : (positive : Bool) (x : ℤ) → IsAgainst (not positive) x → IsSigned positive x
against_other true x h = h
against_other false x h = h

pub on_side : (positive : Bool) (x : ℤ) → (IsAgainst positive x → ⊥) → IsOnSide positive x
on_side true x h = by_order x h
  where
    by_order : (x : ℤ) → (x <ℤ pos 0 → ⊥) → pos 0 ≤ℤ x
    by_order x h = grind (arith, ints)
on_side false x h = by_order x h
  where
    by_order : (x : ℤ) → (pos 0 <ℤ x → ⊥) → x ≤ℤ pos 0
    by_order x h = grind (arith, ints)

pub every_level : (S : LinearSystem) (listed : List (List ℤ)) (f : List ℤ) (j : ℕ) (positive : Bool) → ((l : ℕ) → BarsAt S listed f j positive l) → IsBarLevel S listed f j positive 0
every_level S listed f j positive h = λ l small up. h l
