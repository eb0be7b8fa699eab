-- Taking the turn and giving it back keep the rule.
use Rattle.std.proofs.Common.{◌≡◌, ◌≢◌, ℕ, zero, suc, ◌<◌, ⊎_elim, List, [], ◌∷◌, Bool, true, false, cond, set, get_or, length, min, sym, refl, ap, ◌∙◌, subst, arith, length-set, get_or-set_same, get_or-set_other}
use mathlib.Core.Logic.{dite}
use mathlib.Core.Option.{none, some, some-injective, some-ne-none}
use mathlib.Core.Option as maybe
use native.Mathlib.Decide.{ℕ_discrete}
use lib.ListN.{get_elem?}
use Rattle.std.specs.Prelude.{Some, None}
use Rattle.std.proofs.lemmas.Option.{same_Some}
use Rattle.atomic_table.specs.Table.{State, Me, step, keeps, takes, gives, stepped, Allows}
use Rattle.atomic_table.proofs.Lists.{at_set, set_here}
use Rattle.norm_board.specs.declared.rule.Plan.{Plan}
use Rattle.norm_board.specs.declared.rule.View.{View}
use Rattle.norm_board.specs.Books.{BookValue}
use Rattle.lift_core.specs.Times.{one_if, times, total_of, once_below}
use Rattle.norm_board.specs.Rule.{S, weight_of, open_weight, holding_of, drawn_of, kept_of, Spent, HoldsOfPass, IsBookOf, Home, Away, Turned, Ruled, taking, missing, past, giving, MayGive, KnowsBook}
use Rattle.norm_board.specs.Inside.Plays.{took, gave}
use Rattle.lift_core.proofs.Times.{times-append, once_le}
use Rattle.norm_board.proofs.Lists.{total-set, total_holds, total_two, total_some, total_le_others, total_alone}
use Rattle.norm_board.proofs.Steps.{true_false, each_set, turn_set}

pub there_is : {A : Type 0} (xs : List A) (i : ℕ) (a : A) → get_elem? xs i ≡ some a → i < length xs
there_is [] i a e = absurd (some-ne-none a (sym e))
there_is (x ∷ xs) zero a e = omega arith
there_is (x ∷ xs) (suc i) a e = let r = there_is xs i a e in omega arith

elim_held : (b : Bool) → 0 < one_if b → b ≡ true
elim_held true h = refl
elim_held false h = absurd (omega arith)

-- what lies in the slot that was taken last
abbrev top : List (ℕ × S) → S
top [] = None
top (x ∷ xs) = x.1

module _ (p : Plan) where
  -- a step on word 1, which leaves weights, draws and doneness
  shifted : (s : State S View) (r : Ruled p s) (k id : ℕ) (v w : View) (homes : List (maybe.Option S)) → get_elem? s.views id ≡ some v
      → w.weight ≡ v.weight → w.done ≡ v.done → w.drawn ≡ v.drawn → HoldsOfPass p (get_or s.words 0 0) w → Turned p k homes (set s.views id w)
      → Ruled p record { words = set s.words 1 k; homes = homes; views = set s.views id w }
  shifted s r k id v w homes at weight done drawn good turn =
      let wide : length s.words ≡ 2 = r.wide in
      let word : get_or (set s.words 1 k) 0 0 ≡ get_or s.words 0 0 = get_or-set_other s.words 1 0 k 0 (λ e. absurd (omega arith)) in
      let bit : get_or (set s.words 1 k) 1 0 ≡ k = get_or-set_same s.words 1 k 0 (omega arith) in
      let ws = total-set weight_of s.views id v w at in
      let os = total-set open_weight s.views id v w at in
      let o : open_weight w ≡ open_weight v = λ i. cond (done i) 0 (weight i) in
      let sum = r.weights in
      let room = r.room in
      record {
        wide = length-set s.words 1 k ∙ wide;
        fits = r.fits;
        once = λ x. let d = total-set (drawn_of x) s.views id v w at in let e : times x w.drawn ≡ times x v.drawn = ap (times x) drawn in let o = r.once x in rw word (omega arith);
        weights = omega arith;
        room = rw word (omega arith);
        each = λ i u e. rw word (each_set p (get_or s.words 0 0) (get_or s.words 0 0) id s.views w (omega arith) r.each good i u e);
        turn = rw bit turn;
      }

  -- where one pass has all the weight, the others have none and know nothing
  pub others : (s : State S View) → Ruled p s → (id : ℕ) (v : View) → get_elem? s.views id ≡ some v → v.weight ≡ p.passes → (j : ℕ) (w : View) → j ≢ id → get_elem? s.views j ≡ some w → Spent w
  others s r id v at all j w ne e = (r.each j w e).spent (let t = total_two weight_of s.views j id w v ne e at in let u = r.weights in omega arith)

  finds : (s : State S View) (r : Ruled p s) (id : ℕ) (v : View) → get_elem? s.views id ≡ some v → 0 < v.weight → (h : Home p s.homes s.views) → KnowsBook v h.book
  finds s r id v at live h =
      let fit = r.each id v at in
      let plan : v.plan ≡ p = fit.plan live in
      let passes : v.plan.passes ≡ p.passes = ap (λ (q : Plan). q.passes) plan in
      let blocks : v.plan.blocks ≡ p.blocks = ap (λ (q : Plan). q.blocks) plan in
      record {
        is_of = subst (λ (q : Plan). IsBookOf q h.book) (sym plan) h.is_of;
        apart = λ x. let a = total_le_others (kept_of x) (drawn_of x) s.views (λ i w e. (r.each i w e).kept x) id v at in
            let b = h.blocks x in let c = r.once x in let d = once_le x (min (get_or s.words 0 0) p.blocks) in omega arith;
        kept = λ x. let a = total_holds (kept_of x) s.views id v at in let b = h.blocks x in omega arith;
        whole = λ all x. h.blocks x ∙ total_alone (kept_of x) s.views id v at (λ j w ne e. ap (times x) (others s r id v at (all ∙ passes) j w ne e).kept);
        all = λ all done x. sym (total_alone (drawn_of x) s.views id v at (λ j w ne e. ap (times x) (others s r id v at (all ∙ passes) j w ne e).drawn))
            ∙ (r.once x ∙ ap (λ (k : ℕ). once_below x k) (let late = fit.late live done in let m : min (get_or s.words 0 0) p.blocks ≡ v.plan.blocks = omega arith in m));
      }

  take_home : (s : State S View) (r : Ruled p s) (slots id : ℕ) (me : Me S View) → get_elem? s.views id ≡ some me.0 → 0 < me.0.weight → (h : Home p s.homes s.views)
      → Ruled p (stepped s 1 1 id me.1 (taking me.0 h.book.blocks) (takes 0 (Some h.book)))
  take_home s r slots id me at live h =
      let v : View = me.0 in
      let w : View = taking v h.book.blocks in
      let fit = r.each id v at in
      shifted s r 1 id v w (set s.homes 0 none) at refl refl refl
      record { kept = fit.kept; spent = λ z. absurd (omega arith); late = fit.late; plan = fit.plan }
      record {
        bit = omega arith;
        home = λ z. absurd (omega arith);
        away = λ _. record {
          one = let a = total-set holding_of s.views id v w at in let b = h.nobody in let c = total_holds holding_of s.views id v at in omega arith;
          out = set_here s.homes 0 none (there_is s.homes 0 _ h.there);
          blocks = λ i u e hold x. let k = total-set (kept_of x) s.views id v w at in ⊎_elim
              (λ t. ap (λ (z : View). times x z.found) (sym t.1) ∙ (h.blocks x ∙ (let q : total_of (kept_of x) s.views ≡ total_of (kept_of x) (set s.views id w) = omega arith in q)))
              (λ t. let a = total_holds holding_of s.views i u t.1 in let b : holding_of u ≡ 1 = ap one_if hold in let c = h.nobody in absurd (omega arith))
              (at_set s.views id i w u e);
        };
      }

  -- somebody else holds the turn
  held_by_other : (s : State S View) (r : Ruled p s) (id : ℕ) (v : View) → get_elem? s.views id ≡ some v → v.holding ≡ false → Away s.homes s.views → v.weight < p.passes
  held_by_other s r id v at free a =
      let t = total_some holding_of s.views (let o = a.one in omega arith) in
      let held : t.1.holding ≡ true = elim_held t.1.holding t.3 in
      let ne : t.0 ≢ id = λ e. true_false (sym held ∙ (ap (λ (z : View). z.holding) (some-injective t.1 v (sym t.2 ∙ (ap (λ (k : ℕ). get_elem? s.views k) e ∙ at))) ∙ free)) in
      let two = total_two weight_of s.views t.0 id t.1 v ne t.2 at in
      let sum = r.weights in
      dite (ℕ_discrete t.1.weight 0)
      (λ z. absurd (true_false (sym held ∙ ((r.each t.0 t.1 t.2).spent z).holding)))
      (λ nz. omega arith)

  pub takes_turn : (slots id : ℕ) (me : Me S View) → 0 < me.0.weight → me.0.holding ≡ false
      → Allows (Ruled p) slots id me 1 (λ _. 1) (took (step slots 1 1 0 none) me)
  takes_turn slots id me live free s r _ at _ =
      let bit : ℕ = get_or s.words 1 0 in
      let fit = r.each id me.0 at in
      let passes : me.0.plan.passes ≡ p.passes = ap (λ (q : Plan). q.passes) (fit.plan live) in
      let small = r.turn.bit in
      dite (ℕ_discrete bit 0)
      (λ z. let h = r.turn.home z in (
        taking me.0 h.book.blocks,
        takes 0 (Some h.book),
        h.there,
        take_home s r slots id me at live h,
        ((λ _. (h.book, refl, finds s r id me.0 at live h)), λ nz. absurd (nz z)),
      ))
      (λ nz. let one : bit ≡ 1 = omega arith in let a = r.turn.away one in (
        missing me.0,
        keeps,
        tt,
        shifted s r 1 id me.0 (missing me.0) s.homes at refl refl refl
            record { kept = fit.kept; spent = λ z. absurd (omega arith); late = fit.late; plan = fit.plan }
            (turn_set p 1 s.homes s.views id me.0 (missing me.0) at refl refl refl (subst (λ (k : ℕ). Turned p k s.homes s.views) one r.turn)),
        ((λ z. absurd (nz z)), λ _. (refl, (let h = held_by_other s r id me.0 at free a in omega arith))),
      ))

  same_book : (b c : BookValue) → ◌≡◌ {A = List (ℕ × S)} ((0, Some b) ∷ []) ((0, Some c) ∷ []) → b ≡ c
  same_book b c e = same_Some b c (ap top e)

  pub gives_turn : (slots id : ℕ) (v : View) (b : BookValue) → 0 < v.weight → v.holding ≡ true → IsBookOf p b → MayGive v b.blocks
      → Allows (Ruled p) slots id (v, (0, Some b) ∷ []) 1 (λ _. 0) (gave (step slots 1 0 0 none) (v, (0, Some b) ∷ []))
  gives_turn slots id v b live held is_of may s r _ at _ =
      let bit : ℕ = get_or s.words 1 0 in
      let w : View = giving v b.blocks in
      let fit = r.each id v at in
      let mine = total_holds holding_of s.views id v at in
      let h1 : holding_of v ≡ 1 = ap one_if held in
      let small = r.turn.bit in
      let one : bit ≡ 1 = dite (ℕ_discrete bit 0) (λ z. let n = (r.turn.home z).nobody in absurd (omega arith)) (λ nz. omega arith) in
      let a = r.turn.away one in (
        w,
        gives,
        tt,
        shifted s r 0 id v w (set s.homes 0 (some (Some b))) at refl refl refl
            record {
              kept = λ x. let t = times-append x v.kept (past v.found b.blocks) in let d = may.drawn x in omega arith;
              spent = λ z. absurd (omega arith);
              late = fit.late;
              plan = fit.plan;
            }
            record {
              bit = omega arith;
              home = λ _. record {
                nobody = let t = total-set holding_of s.views id v w at in let o = a.one in omega arith;
                book = b;
                there = set_here s.homes 0 (some (Some b)) (there_is s.homes 0 _ a.out);
                is_of = is_of;
                blocks = λ x. let t = total-set (kept_of x) s.views id v w at in let f = a.blocks id v at held x in let m = may.found x in
                    let k = times-append x v.kept (past v.found b.blocks) in omega arith;
              };
              away = λ z. absurd (omega arith);
            },
        λ c e. ap (λ (z : BookValue). (giving v z.blocks, [])) (same_book b c e),
      )
