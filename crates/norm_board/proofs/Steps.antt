-- Each step on word 0 keeps the rule.
use Rattle.std.proofs.Common.{◌≡◌, ℕ, suc, ◌+◌, ◌-◌, ◌%◌, ◌^◌, ◌<◌, ◌≤◌, ◌⊎◌, inl, inr, ⊎_elim, List, [], ◌∷◌, ◌++◌, Bool, true, false, cond, ◌||◌, set, get_or, length, min, sym, refl, ap, ◌∙◌, subst, arith, length-set, get_or-set_same, get_or-set_other}
use mathlib.Core.Logic.{dite}
use mathlib.Core.Option.{none, some, some-injective, some-ne-none}
use native.Mathlib.Decide.{ℕ_discrete, dec_le}
use lib.ListN.{get_elem?}
use Rattle.atomic_table.specs.Table.{State, Me, step, keeps, stepped, Allows, Splits, Joins}
use Rattle.atomic_table.proofs.Lists.{at_set, at_snoc, set_else}
use Rattle.norm_board.specs.declared.rule.Plan.{Plan}
use Rattle.norm_board.specs.declared.rule.View.{View}
use mathlib.Core.Option as maybe
use Rattle.lift_core.specs.Times.{one_if, times, total_of, once_below, AllUnder}
use Rattle.norm_board.specs.Rule.{S, weight_of, open_weight, holding_of, drawn_of, kept_of, HoldsOfPass, Turned, Ruled, gained, finished, shrunk, single, one_pass}
use Rattle.norm_board.specs.Inside.Plays.{spent_view, drew, looked}
use Rattle.lift_core.proofs.Times.{times-append, times_same, times_other, once_yes, once_no}
use Rattle.norm_board.proofs.Lists.{total-set, total-snoc, total_holds, total_le}

pub true_false : true ≡ false → ⊥
true_false e = cc

open_le : (v : View) → open_weight v ≤ weight_of v
open_le v = elim v.done as (λ b. cond b 0 v.weight ≤ v.weight) [ true ↦ omega arith | false ↦ omega arith ]

module _ (p : Plan) where
  later : (n m : ℕ) (v : View) → n ≤ m → HoldsOfPass p n v → HoldsOfPass p m v
  later n m v le f = record { kept = f.kept; spent = f.spent; late = λ l d. let h = f.late l d in omega arith; plan = f.plan }

  pub each_set : (n m id : ℕ) (vs : List View) (w : View) → n ≤ m → ((i : ℕ) (v : View) → get_elem? vs i ≡ some v → HoldsOfPass p n v) → HoldsOfPass p m w
      → (i : ℕ) (v : View) → get_elem? (set vs id w) i ≡ some v → HoldsOfPass p m v
  each_set n m id vs w le all good i v e = ⊎_elim (λ t. subst (HoldsOfPass p m) t.1 good) (λ t. later n m v le (all i v t.1)) (at_set vs id i w v e)

  moved_turn : (word : ℕ) (homes : List (maybe.Option S)) (vs us : List View) → Turned p word homes vs
      → total_of holding_of us ≡ total_of holding_of vs
      → ((x : ℕ) → total_of (kept_of x) us ≡ total_of (kept_of x) vs)
      → ((i : ℕ) (u : View) → get_elem? us i ≡ some u → u.holding ≡ true → (j : ℕ) × (v : View) × (get_elem? vs j ≡ some v) × (v.holding ≡ true) × (u.found ≡ v.found))
      → Turned p word homes us
  moved_turn word homes vs us t held kept from = record {
    bit = t.bit;
    home = λ z. let h = t.home z in record { nobody = held ∙ h.nobody; book = h.book; there = h.there; is_of = h.is_of; blocks = λ x. h.blocks x ∙ sym (kept x) };
    away = λ z. let h = t.away z in record {
      one = held ∙ h.one;
      out = h.out;
      blocks = λ i u e hold x. let f = from i u e hold in ap (times x) f.4 ∙ (h.blocks f.0 f.1 f.2 f.3 x ∙ sym (kept x));
    };
  }

  -- one view changes, and neither the turn nor what is kept
  pub turn_set : (word : ℕ) (homes : List (maybe.Option S)) (vs : List View) (id : ℕ) (v w : View) → get_elem? vs id ≡ some v
      → w.holding ≡ v.holding → w.found ≡ v.found → w.kept ≡ v.kept → Turned p word homes vs → Turned p word homes (set vs id w)
  turn_set word homes vs id v w at holding found kept t = moved_turn word homes vs (set vs id w) t
      (let a = total-set holding_of vs id v w at in let b : holding_of w ≡ holding_of v = ap one_if holding in omega arith)
      (λ x. let a = total-set (kept_of x) vs id v w at in let b : times x w.kept ≡ times x v.kept = ap (times x) kept in omega arith)
      (λ i u e hold. ⊎_elim
      (λ k. (id, v, at, sym holding ∙ ap (λ (z : View). z.holding) k.1 ∙ hold, sym (ap (λ (z : View). z.found) k.1) ∙ found))
      (λ k. (i, u, k.1, hold, refl))
      (at_set vs id i w u e))

  placed : (s : State S View) (r : Ruled p s) (m id : ℕ) (me : Me S View) (w : View) → get_elem? s.views id ≡ some me.0 → get_or s.words 0 0 ≤ m
      → ((x : ℕ) → total_of (drawn_of x) s.views + times x w.drawn ≡ once_below x (min m p.blocks) + times x me.0.drawn)
      → w.weight ≡ me.0.weight
      → m + (total_of open_weight s.views + open_weight w) ≤ p.blocks + p.passes + open_weight me.0
      → HoldsOfPass p m w
      → w.holding ≡ me.0.holding → w.found ≡ me.0.found → w.kept ≡ me.0.kept
      → Ruled p (stepped s 0 m id me.1 w keeps)
  placed s r m id me w at le once weight room good holding found kept =
      let wide : length s.words ≡ 2 = r.wide in
      let word : get_or (set s.words 0 m) 0 0 ≡ m = get_or-set_same s.words 0 m 0 (omega arith) in
      let bit : get_or (set s.words 0 m) 1 0 ≡ get_or s.words 1 0 = get_or-set_other s.words 0 1 m 0 (λ e. absurd (omega arith)) in
      let ws = total-set weight_of s.views id me.0 w at in
      let os = total-set open_weight s.views id me.0 w at in
      let sum = r.weights in
      record {
        wide = length-set s.words 0 m ∙ wide;
        fits = r.fits;
        once = λ x. let d = total-set (drawn_of x) s.views id me.0 w at in let o = once x in rw word (omega arith);
        weights = omega arith;
        room = rw word (omega arith);
        each = λ i v e. rw word (each_set (get_or s.words 0 0) m id s.views w le r.each good i v e);
        turn = rw bit (turn_set (get_or s.words 1 0) s.homes s.views id me.0 w at holding found kept r.turn);
      }

  -- the new number is counted once more
  counted : (x n t : ℕ) → n < p.blocks → t ≡ once_below x (min n p.blocks) → t + times x (n ∷ []) ≡ once_below x (min (n + 1) p.blocks)
  counted x n t lt e = dite (ℕ_discrete x n)
      (λ same. let a = once_no x (min n p.blocks) (omega arith) in let b = once_yes x (min (n + 1) p.blocks) (omega arith) in
      let c : times x (n ∷ []) ≡ 1 = subst (λ (k : ℕ). times x (k ∷ []) ≡ 1) same (times_same x) in omega arith)
      (λ other. let c = times_other x n other in dite (dec_le (suc x) n)
      (λ below. let a = once_yes x (min n p.blocks) (omega arith) in let b = once_yes x (min (n + 1) p.blocks) (omega arith) in omega arith)
      (λ above. let a = once_no x (min n p.blocks) (omega arith) in let b = once_no x (min (n + 1) p.blocks) (omega arith) in omega arith))

  -- a number that a pass has drawn is below the word
  under : (s : State S View) → Ruled p s → (id : ℕ) (v : View) → get_elem? s.views id ≡ some v → AllUnder v.drawn (get_or s.words 0 0)
  under s r id v at y le = let h = total_holds (drawn_of y) s.views id v at in let o = r.once y in
      let z = once_no y (min (get_or s.words 0 0) p.blocks) (omega arith) in omega arith

  draws_early : (s : State S View) → (slots id : ℕ) (me : Me S View) → 0 < me.0.weight → me.0.done ≡ false → Ruled p s → get_elem? s.views id ≡ some me.0
      → get_or s.words 0 0 < p.blocks → Ruled p (stepped s 0 (get_or s.words 0 0 + 1) id me.1 (gained me.0 (get_or s.words 0 0)) keeps)
  draws_early s slots id me live going r at lt =
      let n : ℕ = get_or s.words 0 0 in
      let w : View = gained me.0 n in
      let fit = r.each id me.0 at in
      let room = r.room in
      let all = total_le open_weight weight_of s.views (λ v. open_le v) in
      let sum = r.weights in
      placed s r (n + 1) id me w at (omega arith)
      (λ x. let c = counted x n (total_of (drawn_of x) s.views) lt (r.once x) in let a = times-append x me.0.drawn (n ∷ []) in omega arith)
      refl
      (omega arith)
      record {
        kept = λ x. let k = fit.kept x in let a = times-append x me.0.drawn (n ∷ []) in omega arith;
        spent = λ z. absurd (omega arith);
        late = λ l d. absurd (true_false (sym d ∙ going));
        plan = fit.plan;
      }
      refl
      refl
      refl

  pub draws : (slots id : ℕ) (me : Me S View) → 0 < me.0.weight → me.0.done ≡ false
      → Allows (Ruled p) slots id me 0 (λ n. (n + 1) % 2 ^ 64) (drew (step slots 0 1 0 none) me)
  draws slots id me live going s r _ at _ =
      let n : ℕ = get_or s.words 0 0 in
      let fit = r.each id me.0 at in
      let plan : me.0.plan ≡ p = fit.plan live in
      let open_is : open_weight me.0 ≡ me.0.weight = ap (λ (b : Bool). cond b 0 me.0.weight) going in
      let some_open = total_holds open_weight s.views id me.0 at in
      let room = r.room in
      let fits = r.fits in
      let next : n + 1 ≡ (n + 1) % 2 ^ 64 = omega arith in
      let blocks : me.0.plan.blocks ≡ p.blocks = ap (λ (q : Plan). q.blocks) plan in
      dite (dec_le (suc n) p.blocks)
      (λ lt. (
        gained me.0 n,
        keeps,
        tt,
        subst (λ (k : ℕ). Ruled p (stepped s 0 k id me.1 (gained me.0 n) keeps)) next (draws_early s slots id me live going r at lt),
        (refl, (λ _. (refl, under s r id me.0 at)), λ ge. absurd (omega arith)),
      ))
      (λ ge. (
        finished me.0,
        keeps,
        tt,
        subst (λ (k : ℕ). Ruled p (stepped s 0 k id me.1 (finished me.0) keeps)) next
            (placed s r (n + 1) id me (finished me.0) at (omega arith)
            (λ x. let o = r.once x in let a : min n p.blocks ≡ min (n + 1) p.blocks = omega arith in
            let b : once_below x (min n p.blocks) ≡ once_below x (min (n + 1) p.blocks) = ap (λ (k : ℕ). once_below x k) a in omega arith)
            refl
            (omega arith)
            record { kept = fit.kept; spent = λ z. absurd (omega arith); late = λ _ _. omega arith; plan = fit.plan }
            refl refl refl),
        (refl, (λ lt. absurd (omega arith)), λ _. refl),
      ))

  split_open : (b : Bool) (k : ℕ) → 2 ≤ k → cond b 0 (k - 1) + cond b 0 1 ≡ cond b 0 k
  split_open true k h = refl
  split_open false k h = omega arith

  join_open : (b c : Bool) (j k : ℕ) → cond (b || c) 0 (j + k) ≤ cond b 0 j + cond c 0 k
  join_open true c j k = omega arith
  join_open false true j k = omega arith
  join_open false false j k = omega arith

  pub splits : (id : ℕ) (v : View) → 2 ≤ v.weight → Splits (Ruled p) id v (shrunk v) (single v)
  splits id v two s r at =
      let vs : List View = set s.views id (shrunk v) in
      let fit = r.each id v at in
      let ws = total-set weight_of s.views id v (shrunk v) at in
      let wn = total-snoc weight_of vs (single v) in
      let os = total-set open_weight s.views id v (shrunk v) at in
      let on = total-snoc open_weight vs (single v) in
      let o : open_weight (shrunk v) + open_weight (single v) ≡ open_weight v = split_open v.done v.weight two in
      let sum = r.weights in
      let room = r.room in
      record {
        wide = r.wide;
        fits = r.fits;
        once = λ x. let a = total-set (drawn_of x) s.views id v (shrunk v) at in let b = total-snoc (drawn_of x) vs (single v) in let c = r.once x in omega arith;
        weights = omega arith;
        room = omega arith;
        each = λ i w e. ⊎_elim
            (λ h. each_set (get_or s.words 0 0) (get_or s.words 0 0) id s.views (shrunk v) (omega arith) r.each
            record { kept = fit.kept; spent = λ z. absurd (omega arith); late = λ l d. fit.late (omega arith) d; plan = λ l. fit.plan (omega arith) } i w h)
            (λ h. subst (HoldsOfPass p (get_or s.words 0 0)) h
            record { kept = λ x. omega arith; spent = λ z. absurd (omega arith); late = λ l d. fit.late (omega arith) d; plan = λ l. fit.plan (omega arith) })
            (at_snoc vs (single v) w i e);
        turn = moved_turn (get_or s.words 1 0) s.homes s.views (vs ++ single v ∷ []) r.turn
            (let a = total-set holding_of s.views id v (shrunk v) at in let b = total-snoc holding_of vs (single v) in omega arith)
            (λ x. let a = total-set (kept_of x) s.views id v (shrunk v) at in let b = total-snoc (kept_of x) vs (single v) in omega arith)
            (λ i u e hold. ⊎_elim
            (λ h. ⊎_elim
            (λ k. (id, v, at, ap (λ (z : View). z.holding) k.1 ∙ hold, sym (ap (λ (z : View). z.found) k.1)))
            (λ k. (i, u, k.1, hold, refl))
            (at_set s.views id i (shrunk v) u h))
            (λ h. absurd (true_false (sym hold ∙ sym (ap (λ (z : View). z.holding) h))))
            (at_snoc vs (single v) u i e));
      }

  either_done : (b c : Bool) → (b || c) ≡ true → (b ≡ true) ⊎ (c ≡ true)
  either_done true c h = inl refl
  either_done false c h = inr h

  pub joins : (id : ℕ) (v : View) (other : ℕ) (w : View) → 0 < v.weight → 0 < w.weight → w.holding ≡ false → Joins (Ruled p) id v other w (one_pass v w) spent_view
  joins id v other w live lives free s r at ne at' =
      let n : ℕ = get_or s.words 0 0 in
      let vs : List View = set s.views id (one_pass v w) in
      let fit = r.each id v at in
      let there : get_elem? s.views other ≡ some w = sym (set_else s.views id other (one_pass v w) ne) ∙ at' in
      let fit' = r.each other w there in
      let ws = total-set weight_of s.views id v (one_pass v w) at in
      let wn = total-set weight_of vs other w spent_view at' in
      let os = total-set open_weight s.views id v (one_pass v w) at in
      let on = total-set open_weight vs other w spent_view at' in
      let o : open_weight (one_pass v w) ≤ open_weight v + open_weight w = join_open v.done w.done v.weight w.weight in
      let sum = r.weights in
      let room = r.room in
      record {
        wide = r.wide;
        fits = r.fits;
        once = λ x. let a = total-set (drawn_of x) s.views id v (one_pass v w) at in let b = total-set (drawn_of x) vs other w spent_view at' in
            let c = times-append x v.drawn w.drawn in let d = r.once x in omega arith;
        weights = omega arith;
        room = omega arith;
        each = each_set n n other vs spent_view (omega arith)
            (each_set n n id s.views (one_pass v w) (omega arith) r.each
            record {
              kept = λ x. let a = fit.kept x in let b = fit'.kept x in let c = times-append x v.drawn w.drawn in let d = times-append x v.kept w.kept in omega arith;
              spent = λ z. absurd (omega arith);
              late = λ l d. ⊎_elim (λ h. fit.late live h) (λ h. fit'.late lives h) (either_done v.done w.done d);
              plan = λ l. fit.plan live;
            })
            record { kept = λ x. omega arith; spent = λ z. record { done = refl; holding = refl; found = refl; drawn = refl; kept = refl; missed = refl }; late = λ l d. absurd (omega arith); plan = λ l. absurd (omega arith) };
        turn = moved_turn (get_or s.words 1 0) s.homes s.views (set vs other spent_view) r.turn
            (let a = total-set holding_of s.views id v (one_pass v w) at in let b = total-set holding_of vs other w spent_view at' in
            let c : holding_of w ≡ 0 = ap one_if free in omega arith)
            (λ x. let a = total-set (kept_of x) s.views id v (one_pass v w) at in let b = total-set (kept_of x) vs other w spent_view at' in
            let c = times-append x v.kept w.kept in omega arith)
            (λ i u e hold. ⊎_elim
            (λ h. absurd (true_false (sym hold ∙ sym (ap (λ (z : View). z.holding) h.1))))
            (λ h. ⊎_elim
            (λ k. (id, v, at, ap (λ (z : View). z.holding) k.1 ∙ hold, sym (ap (λ (z : View). z.found) k.1)))
            (λ k. (i, u, k.1, hold, refl))
            (at_set s.views id i (one_pass v w) u h.1))
            (at_set vs other i spent_view u e));
      }

  pub looks : (slots id : ℕ) (me : Me S View) → me.0.plan ≡ p → Allows (Ruled p) slots id me 0 (λ n. n) (looked (step slots 0 0 0 none) me)
  looks slots id me plan s r _ at _ =
      let n : ℕ = get_or s.words 0 0 in
      let blocks : me.0.plan.blocks ≡ p.blocks = ap (λ (q : Plan). q.blocks) plan in
      let passes : me.0.plan.passes ≡ p.passes = ap (λ (q : Plan). q.passes) plan in
      let w = total_holds weight_of s.views id me.0 at in
      let sum = r.weights in
      let room = r.room in (
        me.0,
        keeps,
        tt,
        placed s r n id me me.0 at (omega arith) (λ x. let o = r.once x in omega arith) refl (omega arith) (r.each id me.0 at) refl refl refl,
        (
          refl,
          omega arith,
          λ x. let d = total_holds (drawn_of x) s.views id me.0 at in let o = r.once x in
              dite (dec_le (suc x) (min n p.blocks))
              (λ lt. let a = once_yes x (min n p.blocks) lt in let b = once_yes x me.0.plan.blocks (omega arith) in omega arith)
              (λ ge. let a = once_no x (min n p.blocks) (omega arith) in omega arith),
        ),
      )
