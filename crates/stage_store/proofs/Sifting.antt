-- The sieve: a pair that is kept stays kept, and a pair that is passed over has no irreducible sum.
use Rattle.std.proofs.Common.{◌≡◌, ◌⊎◌, ℕ, ◌+◌, ◌-◌, ◌*◌, ◌/◌, ◌%◌, ◌≤◌, ◌<◌, List, [], length, get_or, take, drop, ap, sym, ◌∙◌, subst, arith, inl, inr, refl, Bool, true, false}
use Rattle.std.proofs.Common.{min, length-drop, get_or-drop, get_or-take, subst₂}
use Rattle.std.specs.Prelude.{ℤ, IsTrue, IsFalse}
use Rattle.std.specs.Int.{bit_at}
use Rattle.std.specs.List.{AllByRecursion}
use Rattle.std.proofs.lemmas.Bool.{cases_lt, cases_eq}
use Rattle.std.proofs.lemmas.Int.{ints}
use Rattle.std.proofs.lemmas.List.{length-take-le}
use Rattle.lift_core.specs.Systems.{LinearSystem}
use Rattle.lift_core.specs.Stages.{stage_norm, has_positive_last, has_negative_last}
use Rattle.stage_store.specs.declared.table.Group.{Group}
use Rattle.lift_core.specs.ToolSystems.{width}
use Rattle.stage_store.specs.Levels.{MakesNone}
use Rattle.stage_store.specs.Classes.{row_at}
use Rattle.stage_store.specs.declared.sieve.Sieve.{Sieve}
use Rattle.stage_store.specs.declared.table.Table.{Table}
use Rattle.stage_store.specs.declared.sieve.KeptPair.{KeptPair}
use Rattle.stage_store.specs.Sieve.{AreSifted, IsTable, IsBefore, IsTurnedBefore, IsSieveTo, IsSieve, IsNewSieve, AreCoupledTo, HasNewReaches, HasNewMirror, HasNoNewSumBy, IsSiftedBy, AreBothSifted, AreSiftedBefore, AreSiftedBy, IsCoupleSifted, AreWide, AreReads, AreBetween, IsGroup, IsSized, IsDead, pair_by}
use Rattle.stage_store.specs.Mirror.{IsMirror, IsWholeMirror, IsWholeOr, IsTurnedTo, AreCouples, place_in}
use Rattle.stage_store.proofs.Negatives.{none_turned, norm_at_mirror, no_mirror, under_negated, above_negated}
use Rattle.stage_store.specs.Lines.{Tell, AreMarked}
use Rattle.stage_store.specs.Levels.{BarsLine, ReachesLine}
use Rattle.stage_store.proofs.Tables.{no_table, table_less, table_as, before_cases}
use Rattle.std.specs.Prelude.{Result, Ok, Err, OnOk}
use Rattle.stage_store.specs.Reaches.{AreReaches}
use Rattle.stage_store.proofs.Classes.{each_at}
use Rattle.stage_store.specs.declared.shelves.Shelves.{Shelves}
use Rattle.stage_store.specs.Shelves.{IsKept, Stay}
use Rattle.stage_store.specs.declared.side.Side.{Side}
use Rattle.stage_store.specs.declared.side.Side.TheVariants.{Plus, Minus}

pub stay_through : (a b c : Shelves) → Stay a b → Stay b c → Stay a c
stay_through a b c h k = record { same_closed = k.same_closed ∙ h.same_closed; kept = λ p x. k.kept p (h.kept p x) }

pub stay_as : (a : Shelves) → Stay a a
stay_as a = record { same_closed = refl; kept = λ p x. x }

module _ (side : Side) (S : LinearSystem) (listed : List (List ℤ)) where
  pub sifted_stays : (old new : Shelves) (i j : ℕ) → Stay old new → IsSiftedBy side S listed old i j → IsSiftedBy side S listed new i j
  sifted_stays old new i j h s = elim s [ inl k ↦ inl (h.kept (pair_by side _ i j) k) | inr n ↦ inr n ]

-- ---- a pair, and that of the negatives of its rows
pub as_wide : (n : ℕ) (listed : List (List ℤ)) (i j : ℕ) → AreWide n listed → i < length listed → j < length listed → length (row_at listed i) ≡ length (row_at listed j)
as_wide n listed i j wide il jl = each_at (λ z. length z ≡ n) listed i [] wide il ∙ sym (each_at (λ z. length z ≡ n) listed j [] wide jl)

not_kept : (side : Side) (v : Shelves) (n i j : ℕ) → (n ≤ v.closed) ⊎ (v.horizon ≤ n) → IsKept v (pair_by side n i j)
not_kept Plus v n i j out = λ low high. elim out [ inl l ↦ absurd (omega (arith, l, low)) | inr h ↦ absurd (omega (arith, h, high)) ]
not_kept Minus v n i j out = λ low high. elim out [ inl l ↦ absurd (omega (arith, l, low)) | inr h ↦ absurd (omega (arith, h, high)) ]

module _ (side : Side) (S : LinearSystem) (listed : List (List ℤ)) (mirror : List ℕ) where
  pub both_stay : (old new : Shelves) (i j : ℕ) → Stay old new → AreBothSifted side S listed old mirror i j → AreBothSifted side S listed new mirror i j
  both_stay old new i j h s = (sifted_stays side S listed old new i j h s.0, λ il jl. sifted_stays side S listed old new (place_in mirror j) (place_in mirror i) h (s.1 il jl))

  module _ (v : Shelves) (i j : ℕ) (whole : IsWholeOr listed mirror) (il : i < length listed) (jl : j < length listed) where
    pub both_none : length (row_at listed i) ≡ length (row_at listed j) → HasNoNewSumBy side S listed i j → AreBothSifted side S listed v mirror i j
    both_none n none = (inr none, λ im jm. inr (none_turned side S listed mirror i j (whole (omega (arith, im))) il jl n none))

    turned_norm : i < length mirror → j < length mirror → stage_norm (row_at listed i) + stage_norm (row_at listed j) ≡ stage_norm (row_at listed (place_in mirror j)) + stage_norm (row_at listed (place_in mirror i))
    turned_norm im jm =
        let h : IsWholeMirror listed mirror = whole (omega (arith, im)) in
        omega (arith, norm_at_mirror listed mirror i h.mirror_is im, norm_at_mirror listed mirror j h.mirror_is jm)

    pub both_kept : IsKept v (pair_by side (stage_norm (row_at listed i) + stage_norm (row_at listed j)) i j)
        → (i < length mirror → j < length mirror → IsKept v (pair_by side (stage_norm (row_at listed i) + stage_norm (row_at listed j)) (place_in mirror j) (place_in mirror i))) → AreBothSifted side S listed v mirror i j
    both_kept k t = (inl k, λ im jm. inl (subst (λ (n : ℕ). IsKept v (pair_by side n (place_in mirror j) (place_in mirror i))) (turned_norm im jm) (t im jm)))

    pub both_out : (stage_norm (row_at listed i) + stage_norm (row_at listed j) ≤ v.closed) ⊎ (v.horizon ≤ stage_norm (row_at listed i) + stage_norm (row_at listed j)) → AreBothSifted side S listed v mirror i j
    both_out out = both_kept (not_kept side v (stage_norm (row_at listed i) + stage_norm (row_at listed j)) i j out) (λ im jm. not_kept side v (stage_norm (row_at listed i) + stage_norm (row_at listed j)) (place_in mirror j) (place_in mirror i) out)

-- a pair that is kept where no refusal came
pub on_ok_kept : {E : Type 0} (v : Shelves) (p q : KeptPair) (A B : Type 0) (r : Result (Unit {0}) E) → p ≡ q → OnOk r (IsKept v p) → OnOk r (A → B → IsKept v q)
on_ok_kept v p q A B (Ok u) e h = λ a b. subst (IsKept v) e h
on_ok_kept v p q A B (Err x) e h = tt

-- ---- rows that bar what another reaches
module _ (side : Side) (S : LinearSystem) (listed : List (List ℤ)) (i j : ℕ) where
  pub none_made : MakesNone S listed (row_at listed i) (row_at listed j) → HasNoNewSumBy side S listed i j
  none_made m = by_sign side
    where
      by_sign : (b : Side) → HasNoNewSumBy b S listed i j
      by_sign Plus = λ z s. m.as_first z s
      by_sign Minus = λ z s. m.as_second z s

  pub none_made_turned : MakesNone S listed (row_at listed j) (row_at listed i) → HasNoNewSumBy side S listed i j
  none_made_turned m = by_sign side
    where
      by_sign : (b : Side) → HasNoNewSumBy b S listed i j
      by_sign Plus = λ z s. m.as_second z s
      by_sign Minus = λ z s. m.as_first z s

-- what the lines of a group tell of its rows and of the one that they are read for
pub group_has_none : (side : Side) (S : LinearSystem) (listed : List (List ℤ)) (i a bits : ℕ) (ids part bar_reads reach_reads : List ℕ) (g : Group) → AreWide (width S + 1) listed → i < length listed → AllByRecursion (λ j. j < length listed) ids
    → IsSized (16 * width S) g → IsGroup S listed ids a g → AreReads (ReachesLine (row_at listed i)) (16 * width S) bar_reads → AreReads (BarsLine S listed (row_at listed i)) (16 * width S) reach_reads
    → IsDead g bar_reads reach_reads bits → length part ≤ 64 → ((k : ℕ) → k < length part → get_or part k 0 ≡ get_or ids (64 * a + k) 0)
    → (k : ℕ) → k < length part → bit_at bits k ≡ 1 → HasNoNewSumBy side S listed i (get_or part k 0)
group_has_none side S listed i a bits ids part bar_reads reach_reads g wide il inside sized group reaches bars dead few at k l bit = elim (dead k (omega (arith, l, few)) bit) [
  | inl x ↦
      let m : ℕ = get_or bar_reads x.0 0 in
      let q = reaches x.0 x.1 in
      let t = group.bars m k (omega (arith, q.0, sized.bars_count)) (omega (arith, l, few)) x.2 in
      let n : length (row_at listed i) ≡ length (row_at listed (get_or ids (64 * a + k) 0)) = each_at (λ z. length z ≡ width S + 1) listed i [] wide il ∙ sym (each_at (λ z. length z ≡ width S + 1) listed (get_or ids (64 * a + k) 0) [] wide (each_at (λ j. j < length listed) ids (64 * a + k) 0 inside t.0)) in
      subst (λ j. HasNoNewSumBy side S listed i j) (sym (at k l)) (none_made_turned side S listed i (get_or ids (64 * a + k) 0) (t.1 (row_at listed i) n q.1))
  | inr x ↦
      let m : ℕ = get_or reach_reads x.0 0 in
      let q = bars x.0 x.1 in
      let t = group.reached m k (omega (arith, q.0, sized.reached_count)) (omega (arith, l, few)) x.2 in
      let n : length (row_at listed (get_or ids (64 * a + k) 0)) ≡ length (row_at listed i) = each_at (λ z. length z ≡ width S + 1) listed (get_or ids (64 * a + k) 0) [] wide (each_at (λ j. j < length listed) ids (64 * a + k) 0 inside t.0) ∙ sym (each_at (λ z. length z ≡ width S + 1) listed i [] wide il) in
      subst (λ j. HasNoNewSumBy side S listed i j) (sym (at k l)) (none_made side S listed i (get_or ids (64 * a + k) 0) (q.1 (row_at listed (get_or ids (64 * a + k) 0)) n t.1))
]

-- ---- norms of which pairs are not kept
-- a group that is passed over
pub group_out : (side : Side) (S : LinearSystem) (listed : List (List ℤ)) (mirror : List ℕ) (v : Shelves) (i group least most norm end : ℕ) (ids : List ℕ) → end ≤ length ids → IsWholeOr listed mirror → i < length listed → AllByRecursion (λ j. j < length listed) ids
    → AreBetween listed ids group least most → norm ≡ stage_norm (row_at listed i) → (norm + most ≤ v.closed) ⊎ (v.horizon ≤ norm + least) → ((k : ℕ) → k < 64 * group → k < end → AreBothSifted side S listed v mirror i (get_or ids k 0))
    → (k : ℕ) → k < 64 * (group + 1) → k < end → AreBothSifted side S listed v mirror i (get_or ids k 0)
group_out side S listed mirror v i group least most norm end ids few whole il within norms is out before k l inside = elim (cases_lt k (64 * group)) [
  | inl s ↦ before k s inside
  | inr s ↦
      let at : 64 * group + (k - 64 * group) ≡ k = omega (arith, s) in
      let t : (least ≤ stage_norm (row_at listed (get_or ids k 0))) × (stage_norm (row_at listed (get_or ids k 0)) ≤ most) =
      subst (λ n. (least ≤ stage_norm (row_at listed (get_or ids n 0))) × (stage_norm (row_at listed (get_or ids n 0)) ≤ most)) at (norms (k - 64 * group) (omega (arith, l, s)) (omega (arith, inside, few, s))) in
      let beyond : (stage_norm (row_at listed i) + stage_norm (row_at listed (get_or ids k 0)) ≤ v.closed) ⊎ (v.horizon ≤ stage_norm (row_at listed i) + stage_norm (row_at listed (get_or ids k 0))) =
      elim out [ inl o ↦ inl (omega (arith, o, t.1, is)) | inr o ↦ inr (omega (arith, o, t.0, is)) ] in
      both_out side S listed mirror v i (get_or ids k 0) whole il (each_at (λ j. j < length listed) ids k 0 within (omega (arith, inside, few))) beyond
]

-- ---- the rows of two tables, sifted anew
pub sifted_anew : (S : LinearSystem) (listed : List (List ℤ)) (n : ℕ) (plus minus : Table) (v : Shelves) → n ≤ length listed → IsTable S listed (IsBefore listed has_positive_last n) n plus → IsTable S listed (IsBefore listed has_negative_last n) n minus
    → ((k : ℕ) → k < length plus.ids.items → AreSiftedBy Plus S listed v [] (get_or plus.ids.items k 0) minus.ids.items) → AreSifted S listed n v
sifted_anew S listed n plus minus v within p m all = λ i j il jl above under.
    let a = p.whole i (omega (arith, il, within)) (il, above) in
    let b = m.whole j (omega (arith, jl, within)) (jl, under) in
    subst₂ (λ (x y : ℕ). IsSiftedBy Plus S listed v x y) a.2 b.2 (all a.0 a.1 b.0 b.1).0

-- the same where the rows of one table are the negatives of those of the other, and one of two pairs is sifted
module _ (S : LinearSystem) (listed : List (List ℤ)) (old new : Shelves) (mirror plus minus : List ℕ) (a : ℕ) where
  pub couple_stays : Stay old new → IsCoupleSifted S listed old mirror plus minus a → IsCoupleSifted S listed new mirror plus minus a
  couple_stays stay h = record {
    before = λ b l. both_stay Plus S listed mirror old new (get_or plus a 0) (get_or minus b 0) stay (h.before b l);
    own = sifted_stays Plus S listed old new (get_or plus a 0) (get_or minus a 0) stay h.own;
  }

  pub on_ok_couple_sifted : {E : Type 0} (x y : ℕ) (r : Result (Unit {0}) E) → Stay old new → x ≡ get_or plus a 0 → y ≡ get_or minus a 0 → AreSiftedBefore Plus S listed old mirror (get_or plus a 0) a minus
      → OnOk r (IsKept new (pair_by Plus (stage_norm (row_at listed x) + stage_norm (row_at listed y)) x y)) → OnOk r (IsCoupleSifted S listed new mirror plus minus a)
  on_ok_couple_sifted x y (Ok u) stay e f before kept = record {
    before = λ b l. both_stay Plus S listed mirror old new (get_or plus a 0) (get_or minus b 0) stay (before b l);
    own = inl (subst₂ (λ (i j : ℕ). IsKept new (pair_by Plus (stage_norm (row_at listed i) + stage_norm (row_at listed j)) i j)) e f kept);
  }
  on_ok_couple_sifted x y (Err e) stay f g before kept = tt

pub couples_sifted : (S : LinearSystem) (listed : List (List ℤ)) (n : ℕ) (plus minus : Table) (v : Shelves) (mirror : List ℕ) → n ≤ length listed → IsWholeOr listed mirror → AreCouples mirror plus.ids.items minus.ids.items
    → IsTable S listed (IsBefore listed has_positive_last n) n plus → IsTable S listed (IsBefore listed has_negative_last n) n minus
    → ((k : ℕ) → k < length plus.ids.items → IsCoupleSifted S listed v mirror plus.ids.items minus.ids.items k) → AreSifted S listed n v
couples_sifted S listed n plus minus v mirror within whole couples p m all = λ i j il jl above under.
    let a = p.whole i (omega (arith, il, within)) (il, above) in
    let b = m.whole j (omega (arith, jl, within)) (jl, under) in
    subst₂ (λ (x y : ℕ). IsSiftedBy Plus S listed v x y) a.2 b.2 (at a.0 b.0 a.1 (omega (arith, b.1, couples.count)))
  where
    at : (a b : ℕ) → a < length plus.ids.items → b < length plus.ids.items → IsSiftedBy Plus S listed v (get_or plus.ids.items a 0) (get_or minus.ids.items b 0)
    at a b al bl = elim (cases_lt b a) [
      | inl l ↦ ((all a al).before b l).0
      | inr s ↦ elim (cases_eq a b) [
        | inl e ↦ subst (λ (k : ℕ). IsSiftedBy Plus S listed v (get_or plus.ids.items a 0) (get_or minus.ids.items k 0)) e (all a al).own
        | inr d ↦
            let x = couples.each a al in
            let y = couples.each b bl in
            let h : IsMirror listed mirror = (whole (omega (arith, x.0))).mirror_is in
            let turned = ((all b bl).before a (omega (arith, s, d))).1 y.0 (omega (arith, x.1, h.inside (get_or plus.ids.items a 0) x.0)) in
            subst₂ (λ (i j : ℕ). IsSiftedBy Plus S listed v i j) (ap (place_in mirror) (sym x.1) ∙ h.back (get_or plus.ids.items a 0) x.0) y.1 turned
      ]
    ]

-- what a table tells of the row at a place
pub marked_reads : (P : List ℤ → ℕ → Type 0) (listed : List (List ℤ)) (ids lines places : List ℕ) (k : ℕ) → Tell P listed ids (k / 64) lines → AreMarked lines (k % 64) places → AreReads (P (row_at listed (get_or ids k 0))) (length lines) places
marked_reads P listed ids lines places k tell marked = λ a l.
    let m = marked a l in
    let at : 64 * (k / 64) + k % 64 ≡ k = omega arith in
    (m.0, subst (λ j. P (row_at listed (get_or ids j 0)) (get_or places a 0)) at (tell (get_or places a 0) (k % 64) m.0 (omega arith) m.1).1)

-- ---- one group more, one row more
pub part_at : (n m k : ℕ) (ids : List ℕ) → k < n → get_or (take n (drop m ids)) k 0 ≡ get_or ids (m + k) 0
part_at n m k ids l = get_or-take n (drop m ids) k 0 l ∙ get_or-drop m ids k 0

pub group_more : (side : Side) (S : LinearSystem) (listed : List (List ℤ)) (mirror : List ℕ) (old new : Shelves) (i group end to : ℕ) (ids : List ℕ) → Stay old new → end ≤ length ids → to ≡ min end (64 * group + 64)
    → ((k : ℕ) → k < 64 * group → k < end → AreBothSifted side S listed old mirror i (get_or ids k 0)) → AreSiftedBy side S listed new mirror i (take (to - 64 * group) (drop (64 * group) ids))
    → (k : ℕ) → k < 64 * (group + 1) → k < end → AreBothSifted side S listed new mirror i (get_or ids k 0)
group_more side S listed mirror old new i group end to ids stay few e before here k l inside = elim (cases_lt k (64 * group)) [
  | inl s ↦ both_stay side S listed mirror old new i (get_or ids k 0) stay (before k s inside)
  | inr s ↦
      let m : ℕ = k - 64 * group in
      let less : k - 64 * group < to - 64 * group = omega (arith, e, l, inside, s) in
      let len : length (take (to - 64 * group) (drop (64 * group) ids)) ≡ to - 64 * group = length-take-le (to - 64 * group) (drop (64 * group) ids) (omega (arith, length-drop (64 * group) ids, e, few)) in
      let at : get_or (take (to - 64 * group) (drop (64 * group) ids)) (k - 64 * group) 0 ≡ get_or ids k 0 = part_at (to - 64 * group) (64 * group) (k - 64 * group) ids less ∙ ap (λ n. get_or ids n 0) (omega (arith, s)) in
      subst (λ j. AreBothSifted side S listed new mirror i j) at (here (k - 64 * group) (omega (arith, len, less)))
]

-- ---- one row more
not_both : (b : Bool) → b ≡ false → b ≡ true → ⊥
not_both b e f = let g : true ≡ false = sym f ∙ e in cc

module _ (S : LinearSystem) (listed : List (List ℤ)) (i : ℕ) (old new : Shelves) (stay : Stay old new) (inside : i < length listed) (before : AreSifted S listed i old) where
  turn_round : (j : ℕ) → IsSiftedBy Minus S listed new i j → IsSiftedBy Plus S listed new j i
  turn_round j s = elim s [
    | inl k ↦ inl (subst (λ m. IsKept new (pair_by Plus m j i)) (omega arith) k)
    | inr h ↦ inr h
  ]

  pub sifted_above : (minus : Table) → has_negative_last (row_at listed i) ≡ false → IsTable S listed (IsBefore listed has_negative_last i) i minus → AreSiftedBy Plus S listed new [] i minus.ids.items → AreSifted S listed (i + 1) new
  sifted_above minus sign table here = λ x y xl yl p m. elim (cases_eq y i) [
    | inl e ↦ absurd (not_both (has_negative_last (row_at listed i)) sign (subst (λ n. has_negative_last (row_at listed n) ≡ true) e m))
    | inr f ↦ elim (cases_eq x i) [
      | inl e ↦
          let k = table.whole y (omega (arith, yl, inside)) (omega (arith, yl, f), m) in
          subst₂ (λ (n o : ℕ). IsSiftedBy Plus S listed new n o) (sym e) k.2 (here k.0 k.1).0
      | inr e ↦ sifted_stays Plus S listed old new x y stay (before x y (omega (arith, xl, e)) (omega (arith, yl, f)) p m)
    ]
  ]

  pub sifted_under : (plus : Table) → has_positive_last (row_at listed i) ≡ false → IsTable S listed (IsBefore listed has_positive_last i) i plus → AreSiftedBy Minus S listed new [] i plus.ids.items → AreSifted S listed (i + 1) new
  sifted_under plus sign table here = λ x y xl yl p m. elim (cases_eq x i) [
    | inl e ↦ absurd (not_both (has_positive_last (row_at listed i)) sign (subst (λ n. has_positive_last (row_at listed n) ≡ true) e p))
    | inr f ↦ elim (cases_eq y i) [
      | inl e ↦
          let k = table.whole x (omega (arith, xl, inside)) (omega (arith, xl, f), p) in
          subst (λ n. IsSiftedBy Plus S listed new x n) (sym e) (turn_round x (subst (λ n. IsSiftedBy Minus S listed new i n) k.2 (here k.0 k.1).0))
      | inr e ↦ sifted_stays Plus S listed old new x y stay (before x y (omega (arith, xl, f)) (omega (arith, yl, e)) p m)
    ]
  ]

  pub sifted_neither : has_positive_last (row_at listed i) ≡ false → has_negative_last (row_at listed i) ≡ false → AreSifted S listed (i + 1) new
  sifted_neither above under = λ x y xl yl p m. elim (cases_eq x i) [
    | inl e ↦ absurd (not_both (has_positive_last (row_at listed i)) above (subst (λ n. has_positive_last (row_at listed n) ≡ true) e p))
    | inr f ↦ elim (cases_eq y i) [
      | inl e ↦ absurd (not_both (has_negative_last (row_at listed i)) under (subst (λ n. has_negative_last (row_at listed n) ≡ true) e m))
      | inr e ↦ sifted_stays Plus S listed old new x y stay (before x y (omega (arith, xl, f)) (omega (arith, yl, e)) p m)
    ]
  ]

-- one sign alone
pub not_negative : (z : List ℤ) → has_positive_last z ≡ true → has_negative_last z ≡ false
not_negative z p = grind (arith, ints)

pub not_positive : (z : List ℤ) → has_negative_last z ≡ true → has_positive_last z ≡ false
not_positive z p = grind (arith, ints)

-- ---- the sieve with one row more
module _ {E : Type 0} (S : LinearSystem) (listed : List (List ℤ)) (d i : ℕ) (old v : Sieve) (inside : i < length listed) (h : IsSieveTo S listed d i old) (stay : Stay old.shelves v.shelves)
    (shelves : length v.shelves.shelves.items ≡ 256) (reaches : v.reaches ≡ old.reaches) (mirror : v.mirror ≡ old.mirror) where
  pub on_ok_above : (r : Result (Unit {0}) E) → has_positive_last (row_at listed i) ≡ true → v.minus ≡ old.minus → OnOk r (AreSiftedBy Plus S listed v.shelves [] i old.minus.ids.items) → OnOk r (IsTable S listed (IsBefore listed has_positive_last (i + 1)) (i + 1) v.plus)
      → OnOk r (IsSieveTo S listed d (i + 1) v)
  on_ok_above (Ok u) sign same here table = record {
    plus_table = table;
    minus_table = subst (IsTable S listed (IsBefore listed has_negative_last (i + 1)) (i + 1)) (sym same) (table_less S listed has_negative_last i old.minus (not_negative (row_at listed i) sign) h.minus_table);
    shelves_are = shelves;
    closed = omega (arith, stay.same_closed, h.closed);
    reaches_are = subst (λ r. AreReaches listed r.items) (sym reaches) h.reaches_are;
    mirror_is = subst (λ m. IsMirror listed m.items) (sym mirror) h.mirror_is;
    sifted = sifted_above S listed i old.shelves v.shelves stay inside h.sifted old.minus (not_negative (row_at listed i) sign) h.minus_table here;
  }
  on_ok_above (Err x) sign same here table = tt

  pub on_ok_under : (r : Result (Unit {0}) E) → has_negative_last (row_at listed i) ≡ true → v.plus ≡ old.plus → OnOk r (AreSiftedBy Minus S listed v.shelves [] i old.plus.ids.items) → OnOk r (IsTable S listed (IsBefore listed has_negative_last (i + 1)) (i + 1) v.minus)
      → OnOk r (IsSieveTo S listed d (i + 1) v)
  on_ok_under (Ok u) sign same here table = record {
    plus_table = subst (IsTable S listed (IsBefore listed has_positive_last (i + 1)) (i + 1)) (sym same) (table_less S listed has_positive_last i old.plus (not_positive (row_at listed i) sign) h.plus_table);
    minus_table = table;
    shelves_are = shelves;
    closed = omega (arith, stay.same_closed, h.closed);
    reaches_are = subst (λ r. AreReaches listed r.items) (sym reaches) h.reaches_are;
    mirror_is = subst (λ m. IsMirror listed m.items) (sym mirror) h.mirror_is;
    sifted = sifted_under S listed i old.shelves v.shelves stay inside h.sifted old.plus (not_positive (row_at listed i) sign) h.plus_table here;
  }
  on_ok_under (Err x) sign same here table = tt

pub sieve_neither : (S : LinearSystem) (listed : List (List ℤ)) (d i : ℕ) (v : Sieve) → i < length listed → IsSieveTo S listed d i v → has_positive_last (row_at listed i) ≡ false → has_negative_last (row_at listed i) ≡ false → IsSieveTo S listed d (i + 1) v
sieve_neither S listed d i v inside h above under = record {
  plus_table = table_less S listed has_positive_last i v.plus above h.plus_table;
  minus_table = table_less S listed has_negative_last i v.minus under h.minus_table;
  shelves_are = h.shelves_are;
  closed = h.closed;
  reaches_are = h.reaches_are;
  mirror_is = h.mirror_is;
  sifted = sifted_neither S listed i v.shelves v.shelves (stay_as v.shelves) inside h.sifted above under;
}

-- ---- a row and its negative
-- the rows whose negatives were before the first n are those themselves
module _ (S : LinearSystem) (listed : List (List ℤ)) (d n : ℕ) (v : Sieve) (turned : IsTurnedTo listed n v.mirror.items) (within : n ≤ length listed) where
  turned_first : (x : ℕ) → x < length listed → place_in v.mirror.items x < n → x < n
  turned_first x xl l =
      let back : place_in v.mirror.items (place_in v.mirror.items x) ≡ x = turned.whole.mirror_is.back x (omega (arith, xl, turned.whole.count)) in
      omega (arith, back, turned.before (place_in v.mirror.items x) l)

  pub couples_begin : IsSieveTo S listed d n v → AreCoupledTo S listed d n v
  couples_begin h = record {
    plus_table = h.plus_table;
    minus_table = table_as S listed (IsBefore listed has_negative_last n) (IsTurnedBefore listed v.mirror.items n) n n v.minus (omega arith)
        (λ x xl p. (turned.before x p.0, p.1)) (λ x xl q. (turned_first x xl q.0, q.1)) h.minus_table;
    shelves_are = h.shelves_are;
    closed = h.closed;
    reaches_are = h.reaches_are;
    whole = turned.whole;
    sifted = λ i j il jl p q. h.sifted i j p.0 (turned_first j jl q.0) p.1 q.1;
  }

pub couples_end : (S : LinearSystem) (listed : List (List ℤ)) (d : ℕ) (v : Sieve) → AreCoupledTo S listed d (length listed) v → IsSieveTo S listed d (length listed) v
couples_end S listed d v h = record {
  plus_table = h.plus_table;
  minus_table = table_as S listed (IsTurnedBefore listed v.mirror.items (length listed)) (IsBefore listed has_negative_last (length listed)) (length listed) (length listed) v.minus (omega arith)
      (λ x xl p. (xl, p.1)) (λ x xl q. (inside x xl, q.1)) h.minus_table;
  shelves_are = h.shelves_are;
  closed = h.closed;
  reaches_are = h.reaches_are;
  mirror_is = h.whole.mirror_is;
  sifted = λ i j il jl p m. h.sifted i j il jl (il, p) (inside j jl, m);
}
  where
    inside : (x : ℕ) → x < length listed → place_in v.mirror.items x < length listed
    inside x xl = omega (arith, h.whole.count, h.whole.mirror_is.inside x (omega (arith, xl, h.whole.count)))

module _ (S : LinearSystem) (listed : List (List ℤ)) (mirror : List ℕ) (whole : IsWholeMirror listed mirror) (i : ℕ) (inside : i < length listed) where
  pub turned_cases : (x : ℕ) → x < length listed → IsTurnedBefore listed mirror (i + 1) x → IsTurnedBefore listed mirror i x ⊎ (x ≡ place_in mirror i)
  turned_cases x xl q = elim (cases_eq (place_in mirror x) i) [
    | inl e ↦ inr (sym (whole.mirror_is.back x (omega (arith, xl, whole.count))) ∙ ap (place_in mirror) e)
    | inr f ↦ inl (omega (arith, q.0, f), q.1)
  ]

  pub turned_here : has_positive_last (row_at listed i) ≡ true → IsTurnedBefore listed mirror (i + 1) (place_in mirror i)
  turned_here sign = (
    omega (arith, whole.mirror_is.back i (omega (arith, inside, whole.count))),
    ap has_negative_last (whole.mirror_is.negative i (omega (arith, inside, whole.count))) ∙ under_negated (row_at listed i) sign,
  )

  -- the negative of a row with last entry below 0
  pub above_turned : (x : ℕ) → x < length listed → place_in mirror x ≡ i → has_negative_last (row_at listed x) ≡ true → has_positive_last (row_at listed i) ≡ true
  above_turned x xl e m = subst (λ (y : ℕ). has_positive_last (row_at listed y) ≡ true) e (ap has_positive_last (whole.mirror_is.negative x (omega (arith, xl, whole.count))) ∙ above_negated (row_at listed x) m)

  module _ (d : ℕ) (v : Sieve) (same : v.mirror.items ≡ mirror) where
    pub couple_none : AreCoupledTo S listed d i v → has_positive_last (row_at listed i) ≡ false → AreCoupledTo S listed d (i + 1) v
    couple_none h sign = record {
      plus_table = table_less S listed has_positive_last i v.plus sign h.plus_table;
      minus_table = table_as S listed (IsTurnedBefore listed v.mirror.items i) (IsTurnedBefore listed v.mirror.items (i + 1)) i (i + 1) v.minus (omega arith) (λ x xl p. (omega (arith, p.0), p.1)) (λ x xl q. fewer x xl q) h.minus_table;
      shelves_are = h.shelves_are;
      closed = h.closed;
      reaches_are = h.reaches_are;
      whole = h.whole;
      sifted = λ x y xl yl p q. elim (before_cases S listed has_positive_last i x p) [
        | inl b ↦ h.sifted x y xl yl b (fewer y yl q)
        | inr e ↦ absurd (not_both (has_positive_last (row_at listed i)) sign (subst (λ (z : ℕ). has_positive_last (row_at listed z) ≡ true) e p.1))
      ];
    }
      where
        fewer : (x : ℕ) → x < length listed → IsTurnedBefore listed v.mirror.items (i + 1) x → IsTurnedBefore listed v.mirror.items i x
        fewer x xl q = elim (cases_eq (place_in v.mirror.items x) i) [
          | inl e ↦ absurd (not_both (has_positive_last (row_at listed i)) sign (above_turned x xl (ap (λ (m : List ℕ). place_in m x) (sym same) ∙ e) q.1))
          | inr f ↦ (omega (arith, q.0, f), q.1)
        ]

-- a row and its negative more
module _ (S : LinearSystem) (listed : List (List ℤ)) (d i : ℕ) (old v : Sieve) (inside : i < length listed) (sign : has_positive_last (row_at listed i) ≡ true) (h : AreCoupledTo S listed d i old)
    (stay : Stay old.shelves v.shelves) (shelves : length v.shelves.shelves.items ≡ 256) (reaches : v.reaches ≡ old.reaches) (mirror : v.mirror ≡ old.mirror) where
  couple_sifted : AreSiftedBy Plus S listed v.shelves old.mirror.items i old.minus.ids.items → IsSiftedBy Plus S listed v.shelves i (place_in old.mirror.items i)
      → (x y : ℕ) → x < length listed → y < length listed → IsBefore listed has_positive_last (i + 1) x → IsTurnedBefore listed old.mirror.items (i + 1) y → IsSiftedBy Plus S listed v.shelves x y
  couple_sifted here own x y xl yl p q = elim (before_cases S listed has_positive_last i x p) [
    | inl b ↦ elim (turned_cases S listed old.mirror.items h.whole i inside y yl q) [
      | inl c ↦ sifted_stays Plus S listed old.shelves v.shelves x y stay (h.sifted x y xl yl b c)
      | inr e ↦
          let mx : x < length old.mirror.items = omega (arith, xl, h.whole.count) in
          let ol : place_in old.mirror.items x < length old.mirror.items = h.whole.mirror_is.inside x mx in
          let back : place_in old.mirror.items (place_in old.mirror.items x) ≡ x = h.whole.mirror_is.back x mx in
          let under : has_negative_last (row_at listed (place_in old.mirror.items x)) ≡ true = ap has_negative_last (h.whole.mirror_is.negative x mx) ∙ under_negated (row_at listed x) b.1 in
          let k = h.minus_table.whole (place_in old.mirror.items x) (omega (arith, ol, h.whole.count)) (omega (arith, back, b.0), under) in
          let both : AreBothSifted Plus S listed v.shelves old.mirror.items i (place_in old.mirror.items x) = subst (λ (z : ℕ). AreBothSifted Plus S listed v.shelves old.mirror.items i z) k.2 (here k.0 k.1) in
          subst₂ (λ (a b : ℕ). IsSiftedBy Plus S listed v.shelves a b) back (sym e) (both.1 (omega (arith, inside, h.whole.count)) ol)
    ]
    | inr e ↦ elim (turned_cases S listed old.mirror.items h.whole i inside y yl q) [
      | inl c ↦
          let k = h.minus_table.whole y yl c in
          subst₂ (λ (a b : ℕ). IsSiftedBy Plus S listed v.shelves a b) (sym e) k.2 (here k.0 k.1).0
      | inr f ↦ subst₂ (λ (a b : ℕ). IsSiftedBy Plus S listed v.shelves a b) (sym e) (sym f) own
    ]
  ]

  pub on_ok_couple : {E : Type 0} (r : Result (Unit {0}) E) → AreSiftedBy Plus S listed v.shelves old.mirror.items i old.minus.ids.items → IsSiftedBy Plus S listed v.shelves i (place_in old.mirror.items i)
      → IsTable S listed (IsBefore listed has_positive_last (i + 1)) (i + 1) v.plus → OnOk r (IsTable S listed (IsTurnedBefore listed old.mirror.items (i + 1)) (i + 1) v.minus) → OnOk r (AreCoupledTo S listed d (i + 1) v)
  on_ok_couple (Ok u) here own plus minus = record {
    plus_table = plus;
    minus_table = subst (λ m. IsTable S listed (IsTurnedBefore listed m.items (i + 1)) (i + 1) v.minus) (sym mirror) minus;
    shelves_are = shelves;
    closed = omega (arith, stay.same_closed, h.closed);
    reaches_are = subst (λ r. AreReaches listed r.items) (sym reaches) h.reaches_are;
    whole = subst (λ m. IsWholeMirror listed m.items) (sym mirror) h.whole;
    sifted = λ x y xl yl p q. couple_sifted here own x y xl yl p (subst (λ m. IsTurnedBefore listed m.items (i + 1) y) mirror q);
  }
  on_ok_couple (Err x) here own plus minus = tt

-- ---- no row yet, and the same rows
pub new_sieve : (S : LinearSystem) (listed : List (List ℤ)) (d : ℕ) (v : Sieve) → IsNewSieve v → IsSieve S listed d v
new_sieve S listed d v h = record {
  within = omega (arith, h.none);
  reach_count = omega (arith, ap length h.no_reaches, h.none);
  upto = record {
    plus_table = no_table S listed (IsBefore listed has_positive_last v.rows) v.rows v.plus (λ x p. omega (arith, p.0, h.none)) h.plus_ids h.plus_groups;
    minus_table = no_table S listed (IsBefore listed has_negative_last v.rows) v.rows v.minus (λ x p. omega (arith, p.0, h.none)) h.minus_ids h.minus_groups;
    shelves_are = h.shelves_are;
    closed = omega (arith, h.none_closed);
    reaches_are = λ k l. absurd (omega (arith, ap length h.no_reaches, l));
    mirror_is = no_mirror listed v.mirror.items h.no_mirror;
    sifted = λ i j l. absurd (omega (arith, h.none, l));
  };
}

-- other reaches, and another mirror
pub sieve_as : (S : LinearSystem) (listed : List (List ℤ)) (d : ℕ) (old mid new : Sieve) → HasNewReaches old mid → HasNewMirror mid new → AreReaches listed mid.reaches.items → IsMirror listed new.mirror.items → IsSieveTo S listed d old.rows old
    → IsSieveTo S listed d new.rows new
sieve_as S listed d old mid new r m reaches mirror h =
    let rows : new.rows ≡ old.rows = m.0 ∙ r.0 in
    let shelves : new.shelves ≡ old.shelves = m.4 ∙ r.4 in
    record {
      plus_table = subst₂ (λ (n : ℕ) (t : Table). IsTable S listed (IsBefore listed has_positive_last n) n t) (sym rows) (sym (m.2 ∙ r.2)) h.plus_table;
      minus_table = subst₂ (λ (n : ℕ) (t : Table). IsTable S listed (IsBefore listed has_negative_last n) n t) (sym rows) (sym (m.3 ∙ r.3)) h.minus_table;
      shelves_are = subst (λ (v : Shelves). length v.shelves.items ≡ 256) (sym shelves) h.shelves_are;
      closed = subst (λ (v : Shelves). v.closed ≤ d) (sym shelves) h.closed;
      reaches_are = subst (λ r. AreReaches listed r.items) (sym m.1) reaches;
      mirror_is = mirror;
      sifted = subst₂ (λ (n : ℕ) (v : Shelves). AreSifted S listed n v) (sym rows) (sym shelves) h.sifted;
    }

-- a mirror of all rows, or none
module _ (listed : List (List ℤ)) (n : ℕ) (mirror : List ℕ) where
  pub known_mirror : (known : Bool) → (IsTrue known → IsTurnedTo listed n mirror) → (IsFalse known → mirror ≡ []) → IsMirror listed mirror
  known_mirror true turned none = (turned refl).whole.mirror_is
  known_mirror false turned none = no_mirror listed mirror (none refl)

  pub known_whole : (known : Bool) → (IsTrue known → IsTurnedTo listed n mirror) → (IsFalse known → mirror ≡ []) → IsWholeOr listed mirror
  known_whole true turned none = λ l. (turned refl).whole
  known_whole false turned none = λ l. absurd (omega (arith, l, ap length (none refl)))

pub sieve_mirrored : (S : LinearSystem) (listed : List (List ℤ)) (d : ℕ) (old new : Sieve) → HasNewMirror old new → IsMirror listed new.mirror.items → IsSieve S listed d old → IsSieve S listed d new
sieve_mirrored S listed d old new m mirror h = record {
  within = omega (arith, m.0, h.within);
  reach_count = omega (arith, m.0, ap (λ r. length r.items) m.1, h.reach_count);
  upto = sieve_as S listed d old old new (refl, refl, refl, refl, refl) m h.upto.reaches_are mirror h.upto;
}

-- the same rows, and other shelves on which their pairs are
pub same_rows : (S : LinearSystem) (listed : List (List ℤ)) (d : ℕ) (old v : Sieve) → v.rows ≡ old.rows → v.reaches ≡ old.reaches → v.mirror ≡ old.mirror → v.plus ≡ old.plus → v.minus ≡ old.minus
    → length v.shelves.shelves.items ≡ 256 → v.shelves.closed ≤ d → AreSifted S listed old.rows v.shelves → IsSieve S listed d old → IsSieve S listed d v
same_rows S listed d old v rows reaches mirror plus minus shelves closed sifted h = record {
  within = omega (arith, rows, h.within);
  reach_count = omega (arith, rows, ap (λ r. length r.items) reaches, h.reach_count);
  upto = record {
    plus_table = subst₂ (λ (n : ℕ) (t : Table). IsTable S listed (IsBefore listed has_positive_last n) n t) (sym rows) (sym plus) h.upto.plus_table;
    minus_table = subst₂ (λ (n : ℕ) (t : Table). IsTable S listed (IsBefore listed has_negative_last n) n t) (sym rows) (sym minus) h.upto.minus_table;
    shelves_are = shelves;
    closed = closed;
    reaches_are = subst (λ r. AreReaches listed r.items) (sym reaches) h.upto.reaches_are;
    mirror_is = subst (λ m. IsMirror listed m.items) (sym mirror) h.upto.mirror_is;
    sifted = subst (λ (n : ℕ). AreSifted S listed n v.shelves) (sym rows) sifted;
  };
}

-- a norm that is closed
pub still_sifted : (S : LinearSystem) (listed : List (List ℤ)) (n : ℕ) (old new : Shelves) → ((p : KeptPair) → IsKept old p → IsKept new p) → AreSifted S listed n old → AreSifted S listed n new
still_sifted S listed n old new kept h = λ i j il jl p m. elim (h i j il jl p m) [ inl k ↦ inl (kept (pair_by Plus _ i j) k) | inr none ↦ inr none ]

-- pairs that are sifted anew
pub on_ok_renewed : {E : Type 0} (S : LinearSystem) (listed : List (List ℤ)) (d : ℕ) (old v : Sieve) (r : Result (Unit {0}) E) → v.rows ≡ old.rows → v.reaches ≡ old.reaches → v.mirror ≡ old.mirror → v.plus ≡ old.plus → v.minus ≡ old.minus
    → length v.shelves.shelves.items ≡ 256 → v.shelves.closed ≤ d → OnOk r (AreSifted S listed old.rows v.shelves) → IsSieve S listed d old → OnOk r (IsSieve S listed d v)
on_ok_renewed S listed d old v (Ok u) rows reaches mirror plus minus shelves closed sifted h = same_rows S listed d old v rows reaches mirror plus minus shelves closed sifted h
on_ok_renewed S listed d old v (Err x) rows reaches mirror plus minus shelves closed sifted h = tt
