-- The board shows the pure machine: the start, and each step of a pass.
use Rattle.std.proofs.Common.{◌≡◌, ◌≢◌, ℕ, zero, suc, ◌+◌, ◌<◌, ◌≤◌, ◌⊎◌, inl, inr, List, [], ◌∷◌, ◌++◌, Bool, true, false, cond, eqb, set, get_or, length, map, min, sym, refl, ap, ◌∙◌, arith, length-set, get_or-set_same, get_or-set_other, replicate, eq-eqb, ne_eqb, ⊎_elim}
use mathlib.Core.Logic.{dite}
use mathlib.Core.Option.{some, some-injective, some-ne-none}
use mathlib.Core.Option as maybe
use native.Mathlib.Decide.{ℕ_discrete, dec_le}
use lib.ListN.{get_elem?}
use Rattle.std.proofs.lemmas.List.{length-replicate, length-map}
use Rattle.atomic_table.specs.Table.{State}
use Rattle.atomic_table.proofs.Lists.{at_set, at_last, at_longer, set_here, set_else}
use Rattle.lift_core.specs.Times.{one_if, times}
use Rattle.lift_core.specs.PureMachine.{CoreState}
use Rattle.lift_core.proofs.Times.{times-append}
use Rattle.norm_board.specs.declared.rule.Plan.{Plan}
use Rattle.norm_board.specs.declared.rule.View.{View}
use Rattle.norm_board.specs.Rule.{S, kept_of, gained, finished, shrunk, single, one_pass, taking, missing, giving, past, starting}
use Rattle.norm_board.specs.Inside.Plays.{spent_view}
use Rattle.norm_board.specs.Shows.{held_by, Shows, Showing, StartShows, DrawsShow, LateDrawsShow, TakesShow, GivesShow, GivesBackShow, SplitsShow, JoinsShow}
use Rattle.norm_board.proofs.Lists.{total-set, total-snoc}
use Rattle.norm_board.proofs.Turns.{there_is}

-- a number that stands in a list stands at some place
place_of : (i : ℕ) (os : List ℕ) → 0 < times i os → (q : ℕ) × (q < length os) × (get_or os q 0 ≡ i)
place_of i [] h = absurd (omega arith)
place_of i (o ∷ os) h = dite (ℕ_discrete i o)
    (λ same. (zero, omega arith, sym same))
    (λ other. let e : one_if (eqb i o) ≡ 0 = ap one_if (ne_eqb i o other) in let r = place_of i os (omega arith) in (suc r.0, (let l = r.1 in omega arith), r.2))

-- one pass gains a block: its owner holds it once more, and nobody else changes
held_set : (i x n q : ℕ) (os : List ℕ) (hs : List (List ℕ)) → length os ≡ length hs → q < length os
    → held_by i x os (set hs q (get_or hs q [] ++ n ∷ [])) ≡ held_by i x os hs + cond (eqb i (get_or os q 0)) (times x (n ∷ [])) 0
held_set i x n q [] hs l h = absurd (omega arith)
held_set i x n q (o ∷ os) [] l h = absurd (omega arith)
held_set i x n zero (o ∷ os) (g ∷ hs) l h = let t = times-append x g (n ∷ []) in
    elim (eqb i o) as (λ b. cond b (times x (g ++ n ∷ [])) 0 + held_by i x os hs ≡ cond b (times x g) 0 + held_by i x os hs + cond b (times x (n ∷ [])) 0) [ true ↦ omega arith | false ↦ omega arith ]
held_set i x n (suc q) (o ∷ os) (g ∷ hs) l h = let r = held_set i x n q os hs (omega arith) (omega arith) in omega arith

-- a number that stands at some place stands in the list
some_there : (q : ℕ) (os : List ℕ) (i : ℕ) → q < length os → get_or os q 0 ≡ i → 0 < times i os
some_there q [] i h e = absurd (omega arith)
some_there zero (o ∷ os) i h e = let n : one_if (eqb i o) ≡ 1 = ap one_if (eq-eqb i o (sym e)) in omega arith
some_there (suc q) (o ∷ os) i h e = let r = some_there q os i (omega arith) e in omega arith

-- a view that is there stays there where one changes
there_set : (vs : List View) (id : ℕ) (w : View) (i : ℕ) → (v : View) × (get_elem? vs i ≡ some v) → (v : View) × (get_elem? (set vs id w) i ≡ some v)
there_set vs id w i h = dite (ℕ_discrete i id)
    (λ same. let l = there_is vs i h.0 h.1 in (w, ap (λ (k : ℕ). get_elem? (set vs id w) k) same ∙ set_here vs id w (let k : id < length vs = omega arith in k)))
    (λ other. (h.0, set_else vs id i w other ∙ h.1))

pub draws_show : DrawsShow
draws_show p s c id me k live lt =
    let r = k.rule in
    let sh = k.shows in
    let at = k.there in
    let n : ℕ = get_or s.words 0 0 in
    let v : View = me.0 in
    let w : View = gained v n in
    let weight = sh.weights id v at in
    let q = place_of id sh.owner (omega arith) in
    let each = sh.each in
    let inside = q.1 in
    let wide : length s.words ≡ 2 = r.wide in
    let word : get_or (set s.words 0 (n + 1)) 0 0 ≡ n + 1 = get_or-set_same s.words 0 (n + 1) 0 (omega arith) in
    let now = sh.next in
    let blocks = sh.blocks in
    let next : c.next ≡ n = omega arith in
    let mine : eqb id (get_or sh.owner q.0 0) ≡ true = eq-eqb id (get_or sh.owner q.0 0) (sym q.2) in (
      q.0,
      (sh.going, omega arith, omega arith),
      record {
        blocks = sh.blocks;
        passes = length-set c.held q.0 (get_or c.held q.0 [] ++ c.next ∷ []) ∙ sh.passes;
        live = λ i h. there_set s.views id w i (sh.live i h);
        next = rw word (omega arith);
        going = sh.going;
        owner = sh.owner;
        each = sh.each ∙ sym (length-set c.held q.0 (get_or c.held q.0 [] ++ c.next ∷ []));
        book = λ x. let t = total-set (kept_of x) s.views id v w at in let b = sh.book x in omega arith;
        weights = λ i u e. ⊎_elim
            (λ t. let k = ap (λ (z : View). z.weight) t.1 in let j = ap (λ (m : ℕ). times m sh.owner) t.0 in omega arith)
            (λ t. sh.weights i u t.1)
            (at_set s.views id i w u e);
        held = λ i u e x. let g = held_set i x c.next q.0 sh.owner c.held sh.each q.1 in ⊎_elim
            (λ t. let same : eqb i (get_or sh.owner q.0 0) ≡ true = ap (λ (m : ℕ). eqb m (get_or sh.owner q.0 0)) t.0 ∙ mine in
            let one : cond (eqb i (get_or sh.owner q.0 0)) (times x (c.next ∷ [])) 0 ≡ times x (c.next ∷ []) = ap (λ (b : Bool). cond b (times x (c.next ∷ [])) 0) same in
            let h = sh.held id v at x in
            let k = ap (λ (z : View). times x z.kept) t.1 in
            let d = ap (λ (z : View). times x z.drawn) t.1 in
            let a = times-append x v.drawn (n ∷ []) in
            let m = ap (λ (m : ℕ). held_by m x sh.owner c.held) t.0 in
            let f = ap (λ (m : ℕ). times x (m ∷ [])) next in omega arith)
            (λ t. let other : eqb i (get_or sh.owner q.0 0) ≡ false = ne_eqb i (get_or sh.owner q.0 0) (λ z. t.0 (z ∙ q.2)) in
            let none : cond (eqb i (get_or sh.owner q.0 0)) (times x (c.next ∷ [])) 0 ≡ 0 = ap (λ (b : Bool). cond b (times x (c.next ∷ [])) 0) other in
            let h = sh.held i u t.1 x in omega arith)
            (at_set s.views id i w u e);
      },
    )

-- one pass gives all that it holds
held_clear : (i x q : ℕ) (os : List ℕ) (hs : List (List ℕ)) → length os ≡ length hs → q < length os
    → held_by i x os (set hs q []) + cond (eqb i (get_or os q 0)) (times x (get_or hs q [])) 0 ≡ held_by i x os hs
held_clear i x q [] hs l h = absurd (omega arith)
held_clear i x q (o ∷ os) [] l h = absurd (omega arith)
held_clear i x zero (o ∷ os) (g ∷ hs) l h =
    elim (eqb i o) as (λ b. cond b 0 0 + held_by i x os hs + cond b (times x g) 0 ≡ cond b (times x g) 0 + held_by i x os hs) [ true ↦ omega arith | false ↦ omega arith ]
held_clear i x (suc q) (o ∷ os) (g ∷ hs) l h = let r = held_clear i x q os hs (omega arith) (omega arith) in omega arith

held_none : (i x : ℕ) (os : List ℕ) (hs : List (List ℕ)) → times i os ≡ 0 → held_by i x os hs ≡ 0
held_none i x [] hs z = refl
held_none i x (o ∷ os) [] z = refl
held_none i x (o ∷ os) (h ∷ hs) z = let r = held_none i x os hs (omega arith) in dite (ℕ_discrete i o)
    (λ same. let e : one_if (eqb i o) ≡ 1 = ap one_if (eq-eqb i o same) in absurd (omega arith))
    (λ other. let e : cond (eqb i o) (times x h) 0 ≡ 0 = ap (λ (b : Bool). cond b (times x h) 0) (ne_eqb i o other) in omega arith)

-- a view of one pass holds what that pass holds
held_one : (i x q : ℕ) (os : List ℕ) (hs : List (List ℕ)) → length os ≡ length hs → q < length os → get_or os q 0 ≡ i → times i os ≡ 1 → held_by i x os hs ≡ times x (get_or hs q [])
held_one i x q [] hs l h e o = absurd (omega arith)
held_one i x q (p ∷ os) [] l h e o = absurd (omega arith)
held_one i x zero (p ∷ os) (g ∷ hs) l h e o =
    let b : eqb i p ≡ true = eq-eqb i p (sym e) in
    let n : one_if (eqb i p) ≡ 1 = ap one_if b in
    let r = held_none i x os hs (omega arith) in
    let t : cond (eqb i p) (times x g) 0 ≡ times x g = ap (λ (c : Bool). cond c (times x g) 0) b in omega arith
held_one i x (suc q) (p ∷ os) (g ∷ hs) l h e o = dite (ℕ_discrete i p)
    (λ same. let n : one_if (eqb i p) ≡ 1 = ap one_if (eq-eqb i p same) in let c = some_there q os i (omega arith) e in absurd (omega arith))
    (λ other. let n : one_if (eqb i p) ≡ 0 = ap one_if (ne_eqb i p other) in
    let t : cond (eqb i p) (times x g) 0 ≡ 0 = ap (λ (c : Bool). cond c (times x g) 0) (ne_eqb i p other) in
    let r = held_one i x q os hs (omega arith) (omega arith) e (omega arith) in omega arith)

pub gives_show : GivesShow
gives_show p s c id v b k one may all =
    let r = k.rule in
    let sh = k.shows in
    let at = k.there in
    let w : View = giving v b.blocks in
    let weight = sh.weights id v at in
    let q = place_of id sh.owner (omega arith) in
    let each = sh.each in
    let inside = q.1 in
    let word : get_or (set s.words 1 0) 0 0 ≡ get_or s.words 0 0 = get_or-set_other s.words 1 0 0 0 (λ e. absurd (omega arith)) in
    let mine : eqb id (get_or sh.owner q.0 0) ≡ true = eq-eqb id (get_or sh.owner q.0 0) (sym q.2) in (
      q.0,
      (sh.going, omega arith),
      record {
        blocks = sh.blocks;
        passes = length-set c.held q.0 [] ∙ sh.passes;
        live = λ i h. there_set s.views id w i (sh.live i h);
        next = rw word sh.next;
        going = sh.going;
        owner = sh.owner;
        each = sh.each ∙ sym (length-set c.held q.0 []);
        book = λ x. let t = total-set (kept_of x) s.views id v w at in let k = sh.book x in let a = times-append x c.book (get_or c.held q.0 []) in
            let d = times-append x v.kept (past v.found b.blocks) in let h = sh.held id v at x in let o = held_one id x q.0 sh.owner c.held sh.each q.1 q.2 (omega arith) in let f = all x in omega arith;
        weights = λ i u e. ⊎_elim
            (λ t. let k = ap (λ (z : View). z.weight) t.1 in let j = ap (λ (m : ℕ). times m sh.owner) t.0 in omega arith)
            (λ t. sh.weights i u t.1)
            (at_set s.views id i w u e);
        held = λ i u e x. let g = held_clear i x q.0 sh.owner c.held sh.each q.1 in ⊎_elim
            (λ t. let same : eqb i (get_or sh.owner q.0 0) ≡ true = ap (λ (m : ℕ). eqb m (get_or sh.owner q.0 0)) t.0 ∙ mine in
            let all_of : cond (eqb i (get_or sh.owner q.0 0)) (times x (get_or c.held q.0 [])) 0 ≡ times x (get_or c.held q.0 []) = ap (λ (k : Bool). cond k (times x (get_or c.held q.0 [])) 0) same in
            let o = held_one id x q.0 sh.owner c.held sh.each q.1 q.2 (omega arith) in
            let k = ap (λ (z : View). times x z.kept) t.1 in
            let d = ap (λ (z : View). times x z.drawn) t.1 in
            let a = times-append x v.kept (past v.found b.blocks) in
            let m = ap (λ (m : ℕ). held_by m x sh.owner c.held) t.0 in
            let f = all x in omega arith)
            (λ t. let other : eqb i (get_or sh.owner q.0 0) ≡ false = ne_eqb i (get_or sh.owner q.0 0) (λ z. t.0 (z ∙ q.2)) in
            let none : cond (eqb i (get_or sh.owner q.0 0)) (times x (get_or c.held q.0 [])) 0 ≡ 0 = ap (λ (k : Bool). cond k (times x (get_or c.held q.0 [])) 0) other in
            let h = sh.held i u t.1 x in omega arith)
            (at_set s.views id i w u e);
      },
    )

owns_all : (n : ℕ) → times 0 (replicate n 0) ≡ n
owns_all zero = refl
owns_all (suc n) = let r = owns_all n in omega arith

owns_only : (n i : ℕ) → 0 < times i (replicate n 0) → i ≡ 0
owns_only zero i h = absurd (omega arith)
owns_only (suc n) i h = dite (ℕ_discrete i 0) (λ same. same) (λ other. let e : one_if (eqb i 0) ≡ 0 = ap one_if (ne_eqb i 0 other) in owns_only n i (omega arith))

holds_none : (n x : ℕ) → held_by 0 x (replicate n 0) (replicate n []) ≡ 0
holds_none zero x = refl
holds_none (suc n) x = let r = holds_none n x in omega arith

only_weight : (p : Plan) (i : ℕ) (v : View) → get_elem? (starting p ∷ []) i ≡ some v → times i (replicate p.passes 0) ≡ v.weight
only_weight p zero v e = owns_all p.passes ∙ ap (λ (z : View). z.weight) (some-injective (starting p) v e)
only_weight p (suc i) v e = absurd (some-ne-none v (sym e))

only_held : (p : Plan) (i : ℕ) (v : View) → get_elem? (starting p ∷ []) i ≡ some v → (x : ℕ) → held_by i x (replicate p.passes 0) (replicate p.passes []) + times x v.kept ≡ times x v.drawn
only_held p zero v e x = let h = holds_none p.passes x in let k = ap (λ (z : View). times x z.kept) (some-injective (starting p) v e) in let d = ap (λ (z : View). times x z.drawn) (some-injective (starting p) v e) in omega arith
only_held p (suc i) v e x = absurd (some-ne-none v (sym e))

pub start_shows : StartShows
start_shows p b e = record {
  blocks = refl;
  passes = let a : List ℕ = [] in length-replicate p.passes a;
  next = omega arith;
  going = refl;
  owner = replicate p.passes 0;
  each = length-replicate p.passes 0 ∙ sym (let a : List ℕ = [] in length-replicate p.passes a);
  book = λ x. omega arith;
  live = λ i h. (starting p, ap (λ (k : ℕ). get_elem? (starting p ∷ []) k) (owns_only p.passes i h));
  weights = only_weight p;
  held = only_held p;
}

-- ---- steps that show the same state
-- one view changes, but not its weight, nor what it has drawn and kept
module _ (p : Plan) (s : State S View) (c : CoreState) (id : ℕ) (v w : View) (k : Showing p s c id v) (weight : w.weight ≡ v.weight) (drawn : w.drawn ≡ v.drawn) (kept : (x : ℕ) → times x w.kept ≡ times x v.kept) where
  shows_still : (words : List ℕ) (homes : List (maybe.Option S)) → min (get_or words 0 0) p.blocks ≡ min (get_or s.words 0 0) p.blocks → Shows p (record { words = words; homes = homes; views = set s.views id w }) c
  shows_still words homes same =
      let sh = k.shows in
      let at = k.there in record {
        blocks = sh.blocks;
        passes = sh.passes;
        next = sh.next ∙ sym same;
        going = sh.going;
        owner = sh.owner;
        each = sh.each;
        book = λ x. let t = total-set (kept_of x) s.views id v w at in let b = sh.book x in let e = kept x in omega arith;
        live = λ i h. there_set s.views id w i (sh.live i h);
        weights = λ i u e. ⊎_elim
            (λ t. let o = sh.weights id v at in let g = ap (λ (z : View). z.weight) t.1 in let j = ap (λ (m : ℕ). times m sh.owner) t.0 in omega arith)
            (λ t. sh.weights i u t.1)
            (at_set s.views id i w u e);
        held = λ i u e x. ⊎_elim
            (λ t. let h = sh.held id v at x in
            let g = ap (λ (z : View). times x z.kept) t.1 in
            let d = ap (λ (z : View). times x z.drawn) t.1 in
            let m = ap (λ (m : ℕ). held_by m x sh.owner c.held) t.0 in
            let a = ap (times x) drawn in
            let b = kept x in omega arith)
            (λ t. sh.held i u t.1 x)
            (at_set s.views id i w u e);
      }

pub late_draws_show : LateDrawsShow
late_draws_show p s c id me k late =
    let wide : length s.words ≡ 2 = k.rule.wide in
    let word : get_or (set s.words 0 (get_or s.words 0 0 + 1)) 0 0 ≡ get_or s.words 0 0 + 1 = get_or-set_same s.words 0 (get_or s.words 0 0 + 1) 0 (omega arith) in
    shows_still p s c id me.0 (finished me.0) k refl refl (λ x. refl) _ _ (omega arith)

turn_leaves : (s : State S View) (n : ℕ) → get_or (set s.words 1 n) 0 0 ≡ get_or s.words 0 0
turn_leaves s n = get_or-set_other s.words 1 0 n 0 (λ e. absurd (omega arith))

pub takes_show : TakesShow
takes_show p s c id me b k =
    let word = turn_leaves s 1 in (
      shows_still p s c id me.0 (taking me.0 b.blocks) k refl refl (λ x. refl) _ _ (omega arith),
      shows_still p s c id me.0 (missing me.0) k refl refl (λ x. refl) _ _ (omega arith),
    )

pub gives_back_show : GivesBackShow
gives_back_show p s c id v b k none =
    let word = turn_leaves s 0 in
    shows_still p s c id v (giving v b.blocks) k refl refl (λ x. let a = times-append x v.kept (past v.found b.blocks) in let n = none x in omega arith) _ _ (omega arith)

-- ---- a pass is cut
times-set : (i j q : ℕ) (os : List ℕ) → q < length os → times i (set os q j) + one_if (eqb i (get_or os q 0)) ≡ times i os + one_if (eqb i j)
times-set i j q [] h = absurd (omega arith)
times-set i j zero (o ∷ os) h = omega arith
times-set i j (suc q) (o ∷ os) h = let r = times-set i j q os (omega arith) in omega arith

-- what a pass of the machine holds is a part of what its owner's passes hold
held_le : (i x q : ℕ) (os : List ℕ) (hs : List (List ℕ)) → length os ≡ length hs → q < length os → get_or os q 0 ≡ i → times x (get_or hs q []) ≤ held_by i x os hs
held_le i x q [] hs l h e = absurd (omega arith)
held_le i x q (o ∷ os) [] l h e = absurd (omega arith)
held_le i x zero (o ∷ os) (g ∷ hs) l h e = let t : cond (eqb i o) (times x g) 0 ≡ times x g = ap (λ (b : Bool). cond b (times x g) 0) (eq-eqb i o (sym e)) in omega arith
held_le i x (suc q) (o ∷ os) (g ∷ hs) l h e = let r = held_le i x q os hs (omega arith) (omega arith) e in omega arith

-- a pass of the machine that holds no x gets another owner
held_moved : (i j x q : ℕ) (os : List ℕ) (hs : List (List ℕ)) → times x (get_or hs q []) ≡ 0 → held_by i x (set os q j) hs ≡ held_by i x os hs
held_moved i j x q [] hs z = refl
held_moved i j x zero (o ∷ os) [] z = refl
held_moved i j x (suc q) (o ∷ os) [] z = refl
held_moved i j x zero (o ∷ os) (g ∷ hs) z =
    let none : (b : Bool) → cond b (times x g) 0 ≡ 0 = λ b. elim b as (λ b. cond b (times x g) 0 ≡ 0) [ true ↦ z | false ↦ refl ] in
    let a = none (eqb i j) in let b = none (eqb i o) in omega arith
held_moved i j x (suc q) (o ∷ os) (g ∷ hs) z = let r = held_moved i j x q os hs z in omega arith

-- a view is one of the list, or the one behind it
at_snoc_place : (l : List View) (a b : View) (j : ℕ) → get_elem? (l ++ a ∷ []) j ≡ some b → (get_elem? l j ≡ some b) ⊎ ((j ≡ length l) × (a ≡ b))
at_snoc_place [] a b zero e = inr (refl, some-injective a b e)
at_snoc_place [] a b (suc j) e = absurd (some-ne-none b (sym e))
at_snoc_place (x ∷ xs) a b zero e = inl e
at_snoc_place (x ∷ xs) a b (suc j) e = ⊎_elim (λ t. inl t) (λ t. inr (ap suc t.0, t.1)) (at_snoc_place xs a b j e)

pub splits_show : SplitsShow
splits_show p s c id v k more fresh =
    let sh = k.shows in
    let at = k.there in
    let n : ℕ = length s.views in
    let w : View = shrunk v in
    let own = sh.weights id v at in
    let q = place_of id sh.owner (omega arith) in
    let each = sh.each in
    let inside = q.1 in
    let owner : List ℕ = set sh.owner q.0 n in
    let long : length (set s.views id w) ≡ n = length-set s.views id w in
    let low = there_is s.views id v at in
    let absent : times n sh.owner ≡ 0 = dite (dec_le 1 (times n sh.owner)) (λ h. let t = sh.live n h in let l = there_is s.views n t.0 t.1 in absurd (omega arith)) (λ h. omega arith) in
    let mine : one_if (eqb id (get_or sh.owner q.0 0)) ≡ 1 = ap one_if (eq-eqb id (get_or sh.owner q.0 0) (sym q.2)) in
    let holds_no : (x : ℕ) → times x (get_or c.held q.0 []) ≡ 0 = λ x. let h = sh.held id v at x in let d = ap (times x) fresh in let l = held_le id x q.0 sh.owner c.held sh.each q.1 q.2 in omega arith in
    let counts : (i : ℕ) → times i owner + one_if (eqb i (get_or sh.owner q.0 0)) ≡ times i sh.owner + one_if (eqb i n) = λ i. times-set i n q.0 sh.owner q.1 in
    let not_mine : (i : ℕ) → i ≢ id → one_if (eqb i (get_or sh.owner q.0 0)) ≡ 0 = λ i ne. ap one_if (ne_eqb i (get_or sh.owner q.0 0) (λ e. ne (e ∙ q.2))) in
    let not_new : (i : ℕ) → i < n → one_if (eqb i n) ≡ 0 = λ i l. ap one_if (ne_eqb i n (λ e. omega arith)) in
    let new : one_if (eqb n n) ≡ 1 = ap one_if (eq-eqb n n refl) in
    record {
      blocks = sh.blocks;
      passes = sh.passes;
      next = sh.next;
      going = sh.going;
      owner = owner;
      each = length-set sh.owner q.0 n ∙ sh.each;
      book = λ x. let t = total-set (kept_of x) s.views id v w at in let u = total-snoc (kept_of x) (set s.views id w) (single v) in let b = sh.book x in omega arith;
      live = λ i h. dite (ℕ_discrete i n)
          (λ same. (single v, ap (λ (j : ℕ). get_elem? (set s.views id w ++ single v ∷ []) j) same ∙ at_last (set s.views id w) (single v) n long))
          (λ other. let e : one_if (eqb i n) ≡ 0 = ap one_if (ne_eqb i n other) in let t = counts i in let u = there_set s.views id w i (sh.live i (omega arith)) in
          (u.0, at_longer (set s.views id w) (single v ∷ []) i u.0 u.1));
      weights = λ i u e. ⊎_elim
          (λ t. ⊎_elim
          (λ a. let g = ap (λ (z : View). z.weight) a.1 in let j = ap (λ (m : ℕ). times m owner) a.0 in let cnt = counts id in let o = not_new id low in omega arith)
          (λ a. let o = sh.weights i u a.1 in let cnt = counts i in let x = not_mine i a.0 in let y = not_new i (there_is s.views i u a.1) in omega arith)
          (at_set s.views id i w u t))
          (λ t. let g = ap (λ (z : View). z.weight) t.1 in let j = ap (λ (m : ℕ). times m owner) (t.0 ∙ long) in let cnt = counts n in let x = not_mine n (λ e. omega arith) in omega arith)
          (at_snoc_place (set s.views id w) (single v) u i e);
      held = λ i u e x. let moved = held_moved i n x q.0 sh.owner c.held (holds_no x) in ⊎_elim
          (λ t. ⊎_elim
          (λ a. let h = sh.held id v at x in
          let g = ap (λ (z : View). times x z.kept) a.1 in
          let d = ap (λ (z : View). times x z.drawn) a.1 in
          let m = ap (λ (m : ℕ). held_by m x sh.owner c.held) a.0 in omega arith)
          (λ a. let h = sh.held i u a.1 x in omega arith)
          (at_set s.views id i w u t))
          (λ t. let g = ap (λ (z : View). times x z.kept) t.1 in
          let d = ap (λ (z : View). times x z.drawn) t.1 in
          let m = ap (λ (m : ℕ). held_by m x sh.owner c.held) (t.0 ∙ long) in
          let none = held_none n x sh.owner c.held absent in omega arith)
          (at_snoc_place (set s.views id w) (single v) u i e);
    }

-- ---- two passes are joined
-- the passes of the machine that belong to one pass of the board belong to another one
module _ (id other : ℕ) (ne : id ≢ other) where
  abbrev redirected : ℕ → ℕ
  redirected o = cond (eqb o other) id o

  moved_to : (o : ℕ) → o ≡ other → redirected o ≡ id
  moved_to o e = ap (λ (b : Bool). cond b id o) (eq-eqb o other e)

  left_at : (o : ℕ) → o ≢ other → redirected o ≡ o
  left_at o e = ap (λ (b : Bool). cond b id o) (ne_eqb o other e)

  times_both : (os : List ℕ) → times id (map redirected os) ≡ times id os + times other os
  times_both [] = refl
  times_both (o ∷ os) = let r = times_both os in dite (ℕ_discrete o other)
      (λ same. let a : one_if (eqb id (redirected o)) ≡ 1 = ap one_if (eq-eqb id (redirected o) (sym (moved_to o same))) in
      let b : one_if (eqb id o) ≡ 0 = ap one_if (ne_eqb id o (λ e. ne (e ∙ same))) in
      let d : one_if (eqb other o) ≡ 1 = ap one_if (eq-eqb other o (sym same)) in omega arith)
      (λ apart. let a : one_if (eqb id (redirected o)) ≡ one_if (eqb id o) = ap (λ (k : ℕ). one_if (eqb id k)) (left_at o apart) in
      let d : one_if (eqb other o) ≡ 0 = ap one_if (ne_eqb other o (λ e. apart (sym e))) in omega arith)

  times_gone : (os : List ℕ) → times other (map redirected os) ≡ 0
  times_gone [] = refl
  times_gone (o ∷ os) = let r = times_gone os in dite (ℕ_discrete o other)
      (λ same. let a : one_if (eqb other (redirected o)) ≡ 0 = ap one_if (ne_eqb other (redirected o) (λ e. ne (sym (e ∙ moved_to o same)))) in omega arith)
      (λ apart. let a : one_if (eqb other (redirected o)) ≡ 0 = ap one_if (ne_eqb other (redirected o) (λ e. apart (sym (e ∙ left_at o apart)))) in omega arith)

  times_else : (i : ℕ) → i ≢ id → i ≢ other → (os : List ℕ) → times i (map redirected os) ≡ times i os
  times_else i a b [] = refl
  times_else i a b (o ∷ os) = let r = times_else i a b os in dite (ℕ_discrete o other)
      (λ same. let x : one_if (eqb i (redirected o)) ≡ 0 = ap one_if (ne_eqb i (redirected o) (λ e. a (e ∙ moved_to o same))) in
      let y : one_if (eqb i o) ≡ 0 = ap one_if (ne_eqb i o (λ e. b (e ∙ same))) in omega arith)
      (λ apart. let x : one_if (eqb i (redirected o)) ≡ one_if (eqb i o) = ap (λ (k : ℕ). one_if (eqb i k)) (left_at o apart) in omega arith)

  held_both : (x : ℕ) (os : List ℕ) (hs : List (List ℕ)) → held_by id x (map redirected os) hs ≡ held_by id x os hs + held_by other x os hs
  held_both x [] hs = refl
  held_both x (o ∷ os) [] = refl
  held_both x (o ∷ os) (h ∷ hs) =
      let r = held_both x os hs in
      let has : Bool → ℕ = λ b. cond b (times x h) 0 in
      dite (ℕ_discrete o other)
      (λ same. let a : has (eqb id (redirected o)) ≡ times x h = ap has (eq-eqb id (redirected o) (sym (moved_to o same))) in
      let b : has (eqb id o) ≡ 0 = ap has (ne_eqb id o (λ e. ne (e ∙ same))) in
      let d : has (eqb other o) ≡ times x h = ap has (eq-eqb other o (sym same)) in omega arith)
      (λ apart. let a : has (eqb id (redirected o)) ≡ has (eqb id o) = ap (λ (k : ℕ). has (eqb id k)) (left_at o apart) in
      let d : has (eqb other o) ≡ 0 = ap has (ne_eqb other o (λ e. apart (sym e))) in omega arith)

  held_else : (i : ℕ) → i ≢ id → i ≢ other → (x : ℕ) (os : List ℕ) (hs : List (List ℕ)) → held_by i x (map redirected os) hs ≡ held_by i x os hs
  held_else i a b x [] hs = refl
  held_else i a b x (o ∷ os) [] = refl
  held_else i a b x (o ∷ os) (h ∷ hs) =
      let r = held_else i a b x os hs in
      let has : Bool → ℕ = λ b. cond b (times x h) 0 in
      dite (ℕ_discrete o other)
      (λ same. let y : has (eqb i (redirected o)) ≡ 0 = ap has (ne_eqb i (redirected o) (λ e. a (e ∙ moved_to o same))) in
      let z : has (eqb i o) ≡ 0 = ap has (ne_eqb i o (λ e. b (e ∙ same))) in omega arith)
      (λ apart. let y : has (eqb i (redirected o)) ≡ has (eqb i o) = ap (λ (k : ℕ). has (eqb i k)) (left_at o apart) in omega arith)

pub joins_show : JoinsShow
joins_show p s c id v other w k apart there =
    let sh = k.shows in
    let at = k.there in
    let ne : id ≢ other = λ e. apart (sym e) in
    let both : View = one_pass v w in
    let vs : List View = set s.views id both in
    let owner : List ℕ = map (redirected id other ne) sh.owner in
    let there' : get_elem? vs other ≡ some w = set_else s.views id other both apart ∙ there in
    record {
      blocks = sh.blocks;
      passes = sh.passes;
      next = sh.next;
      going = sh.going;
      owner = owner;
      each = length-map sh.owner (redirected id other ne) ∙ sh.each;
      book = λ x. let t = total-set (kept_of x) s.views id v both at in let u = total-set (kept_of x) vs other w spent_view there' in let b = sh.book x in
          let a = times-append x v.kept w.kept in omega arith;
      live = λ i h. dite (ℕ_discrete i other)
          (λ same. let g = times_gone id other ne sh.owner in let e = ap (λ (m : ℕ). times m owner) same in absurd (omega arith))
          (λ else. there_set vs other spent_view i (there_set s.views id both i (dite (ℕ_discrete i id)
          (λ same. (v, ap (λ (m : ℕ). get_elem? s.views m) same ∙ at))
          (λ no. let e = times_else id other ne i no else sh.owner in sh.live i (omega arith)))));
      weights = λ i u e. ⊎_elim
          (λ t. let g = ap (λ (z : View). z.weight) t.1 in let j = ap (λ (m : ℕ). times m owner) t.0 in let z = times_gone id other ne sh.owner in omega arith)
          (λ t. ⊎_elim
          (λ a. let g = ap (λ (z : View). z.weight) a.1 in let j = ap (λ (m : ℕ). times m owner) a.0 in let z = times_both id other ne sh.owner in
          let m = sh.weights id v at in let o = sh.weights other w there in omega arith)
          (λ a. let z = times_else id other ne i a.0 t.0 sh.owner in let m = sh.weights i u a.1 in omega arith)
          (at_set s.views id i both u t.1))
          (at_set vs other i spent_view u e);
      held = λ i u e x. ⊎_elim
          (λ t. let g = ap (λ (z : View). times x z.kept) t.1 in let d = ap (λ (z : View). times x z.drawn) t.1 in
          let m = ap (λ (m : ℕ). held_by m x owner c.held) t.0 in
          let z = held_none other x owner c.held (times_gone id other ne sh.owner) in omega arith)
          (λ t. ⊎_elim
          (λ a. let g = ap (λ (z : View). times x z.kept) a.1 in let d = ap (λ (z : View). times x z.drawn) a.1 in
          let m = ap (λ (m : ℕ). held_by m x owner c.held) a.0 in
          let z = held_both id other ne x sh.owner c.held in
          let f = times-append x v.kept w.kept in let h = times-append x v.drawn w.drawn in
          let y = sh.held id v at x in let o = sh.held other w there x in omega arith)
          (λ a. let z = held_else id other ne i a.0 t.0 x sh.owner c.held in let y = sh.held i u a.1 x in omega arith)
          (at_set s.views id i both u t.1))
          (at_set vs other i spent_view u e);
    }
