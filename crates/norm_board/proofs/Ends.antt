-- Closing is a put for each pass of the machine that holds blocks, and then its close.
use Rattle.std.proofs.Common.{◌≡◌, ℕ, zero, suc, ◌+◌, ◌<◌, ◌≤◌, List, [], ◌∷◌, ◌++◌, Bool, true, false, cond, eqb, set, get_or, length, min, sym, refl, ap, ◌∙◌, arith, eq-eqb, ne_eqb, length-append}
use mathlib.Core.Logic.{dite}
use native.Mathlib.Decide.{ℕ_discrete}
use Rattle.std.proofs.lemmas.List.{append_assoc}
use Rattle.lift_core.specs.Times.{one_if, times, total_of, once_below}
use Rattle.lift_core.specs.PureMachine.{CoreState, after_put, Runs, no_event, one_event}
use Rattle.lift_core.proofs.Times.{times-append, once_yes, times_contained}
use Rattle.norm_board.specs.Rule.{drawn_of, kept_of}
use Rattle.norm_board.specs.Shows.{held_by, closing_events, ClosesShow}
use Rattle.norm_board.proofs.Lists.{total_alone}
use Rattle.norm_board.proofs.Turns.{others}

times_most : (i : ℕ) (os : List ℕ) → times i os ≤ length os
times_most i [] = omega arith
times_most i (o ∷ os) = let r = times_most i os in elim (eqb i o) as (λ b. one_if b + times i os ≤ suc (length os)) [ true ↦ omega arith | false ↦ omega arith ]

-- where all passes of the machine have one owner, what they hold is what is held
held_all : (i x : ℕ) (os : List ℕ) (hs : List (List ℕ)) → length os ≡ length hs → times i os ≡ length os → held_by i x os hs ≡ total_of (times x) hs
held_all i x [] [] l e = refl
held_all i x [] (h ∷ hs) l e = absurd (omega arith)
held_all i x (o ∷ os) [] l e = absurd (omega arith)
held_all i x (o ∷ os) (h ∷ hs) l e = let m = times_most i os in dite (ℕ_discrete i o)
    (λ same. let a : one_if (eqb i o) ≡ 1 = ap one_if (eq-eqb i o same) in
    let b : cond (eqb i o) (times x h) 0 ≡ times x h = ap (λ (b : Bool). cond b (times x h) 0) (eq-eqb i o same) in
    let r = held_all i x os hs (omega arith) (omega arith) in omega arith)
    (λ other. let a : one_if (eqb i o) ≡ 0 = ap one_if (ne_eqb i o other) in absurd (omega arith))

set_seam : (front : List (List ℕ)) (h k : List ℕ) (hs : List (List ℕ)) (q : ℕ) → length front ≡ q → set (front ++ h ∷ hs) q k ≡ front ++ k ∷ hs
set_seam [] h k hs zero e = refl
set_seam [] h k hs (suc q) e = absurd (omega arith)
set_seam (g ∷ front) h k hs zero e = absurd (omega arith)
set_seam (g ∷ front) h k hs (suc q) e = ap (λ (l : List (List ℕ)). g ∷ l) (set_seam front h k hs q (omega arith))

get_seam : (front : List (List ℕ)) (h : List ℕ) (hs : List (List ℕ)) (q : ℕ) → length front ≡ q → get_or (front ++ h ∷ hs) q [] ≡ h
get_seam [] h hs zero e = refl
get_seam [] h hs (suc q) e = absurd (omega arith)
get_seam (g ∷ front) h hs zero e = absurd (omega arith)
get_seam (g ∷ front) h hs (suc q) e = get_seam front h hs q (omega arith)

-- the machine may close once the passes from q on have put what they hold
abbrev Closes : CoreState → ℕ → List (List ℕ) → Type 0
Closes c q hs = (t : CoreState) × Runs c (closing_events q hs) t × (t.closed ≡ true) × ((x : ℕ) → times x t.book ≡ once_below x c.blocks)

closes_from : (hs : List (List ℕ)) (c : CoreState) (q : ℕ) (front : List (List ℕ)) → c.held ≡ front ++ hs → length front ≡ q → c.closed ≡ false
    → ((x : ℕ) → times x c.book + total_of (times x) hs ≡ once_below x c.blocks) → Closes c q hs
closes_from [] c q front is len going counts = (
  record c { closed = true },
  one_event (going, λ n l. times_contained n c.book (let o = once_yes n c.blocks l in let k = counts n in omega arith)) no_event,
  refl,
  λ x. let k = counts x in omega arith,
)
closes_from ([] ∷ hs) c q front is len going counts =
    closes_from hs c (suc q) (front ++ [] ∷ []) (is ∙ sym (append_assoc front ([] ∷ []) hs)) (let l = length-append front ([] ∷ []) in omega arith) going (λ x. let k = counts x in omega arith)
closes_from ((y ∷ h) ∷ hs) c q front is len going counts =
    let next : CoreState = after_put c q in
    let held : next.held ≡ (front ++ [] ∷ []) ++ hs = ap (λ (l : List (List ℕ)). set l q []) is ∙ set_seam front (y ∷ h) [] hs q len ∙ sym (append_assoc front ([] ∷ []) hs) in
    let put : get_or c.held q [] ≡ y ∷ h = ap (λ (l : List (List ℕ)). get_or l q []) is ∙ get_seam front (y ∷ h) hs q len in
    let inside : q < length c.held = let a = ap length is in let l = length-append front ((y ∷ h) ∷ hs) in omega arith in
    let r = closes_from hs next (suc q) (front ++ [] ∷ []) held (let l = length-append front ([] ∷ []) in omega arith) going
    (λ x. let k = counts x in let a = times-append x c.book (get_or c.held q []) in let b = ap (times x) put in omega arith) in
    (r.0, one_event (going, inside) r.1, r.2, r.3)

pub closes_show : ClosesShow
closes_show p s c id v k live all done =
    let r = k.rule in
    let sh = k.shows in
    let at = k.there in
    let own = sh.weights id v at in
    let passes = sh.passes in
    let each = sh.each in
    let owned : times id sh.owner ≡ length sh.owner = omega arith in
    let late = (r.each id v at).late live done in
    let counts : (x : ℕ) → times x c.book + total_of (times x) c.held ≡ once_below x c.blocks = λ x.
    let h = sh.held id v at x in
    let a = held_all id x sh.owner c.held sh.each owned in
    let b = sh.book x in
    let kept = total_alone (kept_of x) s.views id v at (λ j w ne e. ap (times x) (others p s r id v at all j w ne e).kept) in
    let drawn = total_alone (drawn_of x) s.views id v at (λ j w ne e. ap (times x) (others p s r id v at all j w ne e).drawn) in
    let once = r.once x in
    let clip : min (get_or s.words 0 0) p.blocks ≡ p.blocks = omega arith in
    let o = ap (once_below x) clip in
    let bl = ap (once_below x) sh.blocks in omega arith in
    let t = closes_from c.held c 0 [] refl refl sh.going counts in
    (t.0, t.1, t.2, λ x. t.3 x ∙ ap (once_below x) sh.blocks)
