-- What was known of the listed rows stays true as more rows are listed.
use Rattle.std.proofs.Common.{◌≡◌, ℕ, zero, suc, ◌+◌, ◌*◌, ◌≤◌, ◌<◌, List, [], ◌∷◌, ◌++◌, length, get_or, ap, ap₂, sym, ◌∙◌, subst, arith, inl, inr, Bool, true, false, length-append}
use Rattle.std.specs.Prelude.{ℤ, IsTrue}
use Rattle.std.specs.List.{AllByRecursion}
use Rattle.std.proofs.lemmas.Bool.{cases_Bool}
use Rattle.std.proofs.lemmas.List.{get_or_append_left}
use Rattle.std.proofs.lemmas.List.Elements.{Contains-append_left}
use Rattle.lift_core.specs.Systems.{LinearSystem}
use Rattle.lift_core.specs.Stages.{stage_norm, has_positive_last, has_negative_last}
use Rattle.stage_store.specs.declared.table.Table.{Table}
use Rattle.stage_store.specs.declared.sieve.Sieve.{Sieve}
use Rattle.stage_store.specs.Classes.{ClassValue, row_at, places, with_class}
use Rattle.stage_store.specs.Levels.{BarsLine, ReachesLine, is_plus}
use Rattle.stage_store.proofs.Levels.{bars_stay}
use Rattle.stage_store.specs.Found.{IsSumOf}
use Rattle.stage_store.specs.Shelves.{IsKept}
use Rattle.stage_store.specs.declared.shelves.Shelves.{Shelves}
use Rattle.stage_store.specs.Sieve.{HasNoNewSum, IsGroup, IsTable, IsBefore, AreSifted, IsSieveTo, IsSieve, pair_by}
use Rattle.stage_store.specs.Mirror.{IsMirror, place_in}
use Rattle.int_vector.specs.Vectors.{negated}
use Rattle.stage_store.specs.Reaches.{IsReachOr}
use Rattle.std.proofs.Common.{◌/◌, ◌%◌}
use Rattle.stage_store.specs.Stage.{StageValue}
use Rattle.stage_store.specs.Opened.{AreAscending, AscendWithin, IsAhead}
use Rattle.stage_store.specs.declared.opened.Opened.{Opened}
use Rattle.stage_store.proofs.Classes.{each_at}
use Rattle.stage_store.proofs.Publish.{each_snoc}
use Rattle.stage_store.proofs.Reaches.{reach_stays}
use Rattle.stage_store.specs.declared.side.Side.TheVariants.{Plus}

-- ---- places ascend
get_within : (b : ℕ) (xs : List ℕ) (k : ℕ) → AllByRecursion (λ x. b ≤ x) xs → k < length xs → b ≤ get_or xs k 0
get_within b xs k h l = each_at (λ x. b ≤ x) xs k 0 h l

more_within : (b c : ℕ) (xs : List ℕ) → b ≤ c → AllByRecursion (λ x. c ≤ x) xs → AllByRecursion (λ x. b ≤ x) xs
more_within b c [] l h = tt
more_within b c (x ∷ xs) l h = (omega (arith, l, h.0), more_within b c xs l h.1)

places_from : (test : List ℤ → Bool) (b : ℕ) (rows : List (List ℤ)) → AllByRecursion (λ x. b ≤ x) (places test b rows)
places_from test b [] = tt
places_from test b (x ∷ rows) = elim (cases_Bool (test x)) [
  | inl t ↦ rw t (omega arith, more_within b (b + 1) (places test (b + 1) rows) (omega arith) (places_from test (b + 1) rows))
  | inr t ↦ rw t (more_within b (b + 1) (places test (b + 1) rows) (omega arith) (places_from test (b + 1) rows))
]

ascend_cons : (b : ℕ) (xs : List ℕ) → AllByRecursion (λ x. b ≤ x) xs → AreAscending xs → AreAscending (b ∷ xs)
ascend_cons b xs h a zero zero l m = omega arith
ascend_cons b xs h a zero (suc j) l m = get_within b xs j h (omega (arith, m))
ascend_cons b xs h a (suc i) zero l m = absurd (omega arith)
ascend_cons b xs h a (suc i) (suc j) l m = a i j (omega arith) (omega (arith, m))

nothing_ascends : AreAscending []
nothing_ascends i j l m = absurd (omega (arith, m))

places_ascend : (test : List ℤ → Bool) (b : ℕ) (rows : List (List ℤ)) → AreAscending (places test b rows)
places_ascend test b [] = nothing_ascends
places_ascend test b (x ∷ rows) = elim (cases_Bool (test x)) [
  | inl t ↦ rw t (ascend_cons b (places test (b + 1) rows) (more_within b (b + 1) (places test (b + 1) rows) (omega arith) (places_from test (b + 1) rows)) (places_ascend test (b + 1) rows))
  | inr t ↦ rw t (places_ascend test (b + 1) rows)
]

pub ids_after : (test : List ℤ → Bool) (b : ℕ) (rows : List (List ℤ)) (cs new : List ClassValue) (n : ℕ) (ids : List ℕ) → AscendWithin cs → ids ≡ places test b rows → new ≡ with_class n ids cs → AscendWithin new
ids_after test b rows cs new n ids h e is = subst AscendWithin (sym is) (go ids (subst (λ l. AreAscending l) (sym e) (places_ascend test b rows)))
  where
    go : (ids : List ℕ) → AreAscending ids → AscendWithin (with_class n ids cs)
    go [] a = h
    go (i ∷ ids) a = each_snoc (λ (c : ClassValue). AreAscending c.ids) cs (record { norm = n; ids = i ∷ ids }) h a

-- ---- the sieve
row_stays : (listed new : List (List ℤ)) (i : ℕ) → i < length listed → row_at (listed ++ new) i ≡ row_at listed i
row_stays listed new i l = get_or_append_left listed new [] i l

table_stays : (S : LinearSystem) (listed new : List (List ℤ)) (test : List ℤ → Bool) (n : ℕ) (t : Table) → n ≤ length listed → IsTable S listed (IsBefore listed test n) n t
    → IsTable S (listed ++ new) (IsBefore (listed ++ new) test n) n t
table_stays S listed new test n t l h =
    let same : (k : ℕ) → k < length t.ids.items → row_at (listed ++ new) (get_or t.ids.items k 0) ≡ row_at listed (get_or t.ids.items k 0) = λ k kl. row_stays listed new (get_or t.ids.items k 0) (h.inside k kl).0 in
    record {
      inside = λ k kl. let x = h.inside k kl in (omega (arith, x.0, length-append listed new), (x.1.0, ap test (same k kl) ∙ x.1.1));
      whole = λ x xl p. h.whole x (omega (arith, p.0, l)) (p.0, ap test (sym (row_stays listed new x (omega (arith, p.0, l)))) ∙ p.1);
      few = h.few;
      count = h.count;
      sized = h.sized;
      groups = λ a d k.
          let g : IsGroup S listed t.ids.items a (get_or t.groups.items a d) = h.groups a d k in
          record {
            bars = λ m r ml rl bit.
                let x = g.bars m r ml rl bit in
                (x.0, subst (λ (f : List ℤ). BarsLine S (listed ++ new) f m) (sym (same (64 * a + r) x.0)) (bars_stay S listed new (row_at listed (get_or t.ids.items (64 * a + r) 0)) (m / 8 / 2) (is_plus (m / 8)) (m % 8) x.1));
            reached = λ m r ml rl bit.
                let x = g.reached m r ml rl bit in
                (x.0, subst (λ (f : List ℤ). ReachesLine f m) (sym (same (64 * a + r) x.0)) x.1);
            norms = λ r rl k'. subst (λ (f : List ℤ). ((get_or t.groups.items a d).least ≤ stage_norm f) × (stage_norm f ≤ (get_or t.groups.items a d).most)) (sym (same (64 * a + r) k')) (g.norms r rl k');
          };
    }

none_stays : (S : LinearSystem) (listed new : List (List ℤ)) (i j : ℕ) → i < length listed → j < length listed → HasNoNewSum S listed i j → HasNoNewSum S (listed ++ new) i j
none_stays S listed new i j il jl h = λ z s.
    let a : row_at (listed ++ new) i ≡ row_at listed i = row_stays listed new i il in
    let b : row_at (listed ++ new) j ≡ row_at listed j = row_stays listed new j jl in
    let t : IsSumOf S (listed ++ new) (row_at listed i) (row_at listed j) z = subst (λ (f : List ℤ). IsSumOf S (listed ++ new) f (row_at listed j) z) a (subst (λ (g : List ℤ). IsSumOf S (listed ++ new) (row_at (listed ++ new) i) g z) b s) in
    h z (record { sum = t.sum; is = t.is; irreducible = λ u c w. t.irreducible u (Contains-append_left listed new u c) w })

sifted_stays_on : (S : LinearSystem) (listed new : List (List ℤ)) (n : ℕ) (shelves : Shelves) → n ≤ length listed → AreSifted S listed n shelves → AreSifted S (listed ++ new) n shelves
sifted_stays_on S listed new n shelves within h = λ i j il jl p m.
    let a : row_at (listed ++ new) i ≡ row_at listed i = row_stays listed new i (omega (arith, il, within)) in
    let b : row_at (listed ++ new) j ≡ row_at listed j = row_stays listed new j (omega (arith, jl, within)) in
    let norms : stage_norm (row_at (listed ++ new) i) + stage_norm (row_at (listed ++ new) j) ≡ stage_norm (row_at listed i) + stage_norm (row_at listed j) = ap₂ (λ x y. x + y) (ap stage_norm a) (ap stage_norm b) in
    elim (h i j il jl (ap has_positive_last (sym a) ∙ p) (ap has_negative_last (sym b) ∙ m)) [
      | inl k ↦ inl (subst (λ x. IsKept shelves (pair_by Plus x i j)) (sym norms) k)
      | inr none ↦ inr (none_stays S listed new i j (omega (arith, il, within)) (omega (arith, jl, within)) none)
    ]

mirror_stays : (listed new : List (List ℤ)) (mirror : List ℕ) → IsMirror listed mirror → IsMirror (listed ++ new) mirror
mirror_stays listed new mirror h = record {
  within = omega (arith, h.within, length-append listed new);
  inside = h.inside;
  back = h.back;
  negative = λ k l. row_stays listed new (place_in mirror k) (omega (arith, h.inside k l, h.within)) ∙ h.negative k l ∙ ap negated (sym (row_stays listed new k (omega (arith, l, h.within))));
}

pub sieve_after : (S : LinearSystem) (listed new : List (List ℤ)) (d e : ℕ) (v : Sieve) → d ≤ e → IsSieve S listed d v → IsSieve S (listed ++ new) e v
sieve_after S listed new d e v up h =
    let u : IsSieveTo S listed d v.rows v = h.upto in
    record {
      within = omega (arith, h.within, length-append listed new);
      reach_count = h.reach_count;
      upto = record {
        plus_table = table_stays S listed new has_positive_last v.rows v.plus h.within u.plus_table;
        minus_table = table_stays S listed new has_negative_last v.rows v.minus h.within u.minus_table;
        shelves_are = u.shelves_are;
        closed = omega (arith, u.closed, up);
        reaches_are = λ k l. subst (λ (row : List ℤ). IsReachOr (listed ++ new) row (get_or v.reaches.items k 0)) (sym (row_stays listed new k (omega (arith, l, h.reach_count, h.within)))) (reach_stays listed new (row_at listed k) (get_or v.reaches.items k 0) (u.reaches_are k l));
        mirror_is = mirror_stays listed new v.mirror.items u.mirror_is;
        sifted = sifted_stays_on S listed new v.rows v.shelves h.within u.sifted;
      };
    }

-- a flag that is not set
pub unknown : (b : Bool) → b ≡ false → IsTrue b → ⊥
unknown b e t = let f : true ≡ false = sym t ∙ e in cc

-- nothing is known ahead
pub nothing_ahead : (s : StageValue) (o : Opened) → (o.known ≡ false) × (o.defined ≡ false) → IsAhead s o
nothing_ahead s o none = record { defined = λ t. absurd (unknown o.defined none.1 t); opens = λ t. absurd (unknown o.known none.0 t); enough = λ t. absurd (unknown o.known none.0 t) }
