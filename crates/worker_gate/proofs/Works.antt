-- What drawing, evaluating and putting leave.
use Rattle.std.proofs.Common.{◌≡◌, ◌≢◌, ℕ, ◌+◌, ◌-◌, ◌<◌, ◌≤◌, List, [], ◌∷◌, ◌++◌, refl, ap, subst, arith}
use Rattle.norm_board.specs.declared.rule.View.{View}
use Rattle.norm_board.specs.declared.board.puts.Put.{Put}
use Rattle.norm_board.specs.declared.board.puts.Put.TheVariants.{Kept, Held, Memory}
use Rattle.norm_board.specs.Books.{BookValue}
use Rattle.lift_core.specs.Times.{times, once_below}
use Rattle.norm_board.specs.Rule.{gained, one_pass}
use Rattle.norm_board.specs.Puts.{Open, HasOpen, PutDone}
use Rattle.worker_gate.specs.Work.{KeepsBlocks}
use Rattle.worker_gate.specs.Inside.Steps.{LeavesPass}
use Rattle.lift_core.proofs.Times.{times-append, times_same}
use Rattle.lift_core.proofs.Times.{once_le}

pub has_drawn : (v : View) (blocks : List ℕ) (n : ℕ) → HasOpen v blocks → HasOpen (gained v n) (blocks ++ n ∷ [])
has_drawn v blocks n h x = let a = times-append x v.drawn (n ∷ []) in let b = times-append x blocks (n ∷ []) in let c = h x in omega arith

pub may : (v : View) (blocks : List ℕ) → HasOpen v blocks → Open v blocks
may v blocks h x = let c = h x in omega arith

pub put_leaves : (e : Put) (v w : View) (s t : BookValue) → PutDone e v w s t → HasOpen v s.blocks → HasOpen w t.blocks
put_leaves Kept v w s t d h x = let c = h x in let k = d.0.kept x in let z = ap (times x) d.1 in let e = ap (times x) d.0.drawn in omega arith
put_leaves Held v w s t d h x = let c = h x in let a = ap (λ (u : View). times x u.kept) d.0 in let b = ap (λ (u : View). times x u.drawn) d.0 in
    let e = ap (λ (u : BookValue). times x u.blocks) d.2 in omega arith
put_leaves Memory v w s t d h x = let c = h x in let a = ap (λ (u : View). times x u.kept) d.0 in let b = ap (λ (u : View). times x u.drawn) d.0 in
    let e = ap (times x) d.1.blocks in omega arith

pub put_weight : (e : Put) (v w : View) (s t : BookValue) → PutDone e v w s t → w.weight ≡ v.weight
put_weight Kept v w s t d = d.0.weight
put_weight Held v w s t d = ap (λ (u : View). u.weight) d.0
put_weight Memory v w s t d = ap (λ (u : View). u.weight) d.0

put_done : (e : Put) (v w : View) (s t : BookValue) → PutDone e v w s t → w.done ≡ v.done
put_done Kept v w s t d = d.0.done
put_done Held v w s t d = ap (λ (u : View). u.done) d.0
put_done Memory v w s t d = ap (λ (u : View). u.done) d.0

pub put_drawn : (e : Put) (v w : View) (s t : BookValue) → PutDone e v w s t → w.drawn ≡ v.drawn
put_drawn Kept v w s t d = d.0.drawn
put_drawn Held v w s t d = ap (λ (u : View). u.drawn) d.0
put_drawn Memory v w s t d = ap (λ (u : View). u.drawn) d.0

pub put_missed : (e : Put) (v w : View) (s t : BookValue) → PutDone e v w s t → v.missed ≤ w.missed
put_missed Kept v w s t d = let m = d.0.missed in omega arith
put_missed Held v w s t d = let m = ap (λ (u : View). u.missed) d.0 in omega arith
put_missed Memory v w s t d = let m = ap (λ (u : View). u.missed) d.0 in omega arith

pub put_empty : (e : Put) (v w : View) (s t : BookValue) → PutDone e v w s t → e ≢ Memory → w.missed ≡ v.missed → t.blocks ≡ []
put_empty Kept v w s t d ne same = d.1
put_empty Held v w s t d ne same = let m = ap (λ (u : View). u.missed) d.0 in absurd (omega arith)
put_empty Memory v w s t d ne same = absurd (ne refl)

pub put_kept : (e : Put) (v w : View) (s t : BookValue) → PutDone e v w s t → (x : ℕ) → times x v.kept ≤ times x w.kept
put_kept Kept v w s t d x = let k = d.0.kept x in omega arith
put_kept Held v w s t d x = let k = ap (λ (u : View). times x u.kept) d.0 in omega arith
put_kept Memory v w s t d x = let k = ap (λ (u : View). times x u.kept) d.0 in omega arith

-- after one more draw
pub draw_gains : (u v w : View) (n : ℕ) → KeepsBlocks u v → w ≡ gained v n → KeepsBlocks u w
draw_gains u v w n h e = record {
  drawn = λ x. let a = h.drawn x in let b = ap (λ (z : View). times x z.drawn) e in let c = times-append x v.drawn (n ∷ []) in omega arith;
  kept = λ x. let a = h.kept x in let b = ap (λ (z : View). times x z.kept) e in omega arith;
}

-- and after a put
pub leaves_gains : (u v w : View) → KeepsBlocks u v → LeavesPass v w → KeepsBlocks u w
leaves_gains u v w h l = record {
  drawn = λ x. let a = h.drawn x in let b = ap (times x) l.drawn in omega arith;
  kept = λ x. let a = h.kept x in let b = l.kept x in omega arith;
}

pub leaves_of : (e : Put) (v w : View) (s t : BookValue) → PutDone e v w s t → LeavesPass v w
leaves_of e v w s t d = record {
  weight = put_weight e v w s t d;
  done = put_done e v w s t d;
  drawn = put_drawn e v w s t d;
  kept = put_kept e v w s t d;
  missed = put_missed e v w s t d;
}

pub has_last : (xs : List ℕ) (n : ℕ) → 0 < times n (xs ++ n ∷ [])
has_last xs n = let a = times-append n xs (n ∷ []) in let b = times_same n in omega arith

-- a block was drawn and evaluated
pub has_stepped : (v v' : View) (a b c : List ℕ) (n : ℕ) → HasOpen v a → v' ≡ gained v n → b ≡ a → c ≡ b ++ n ∷ [] → HasOpen v' c
has_stepped v v' a b c n h e f k = rw (e, k, f) (has_drawn v a n h)

pub last_drawn : (n : ℕ) (xs ys : List ℕ) → ys ≡ xs ++ n ∷ [] → 0 < times (n + 1 - 1) ys
last_drawn n xs ys e = let k : n ≡ n + 1 - 1 = omega arith in subst (λ (j : ℕ). 0 < times j ys) k (rw e (has_last xs n))

module _ (v w u : View) (a b : List ℕ) (h : HasOpen v a) (k : HasOpen w b) (e : u ≡ one_pass v w) where
  -- what two passes of one board have open is apart
  pub merge_apart : (n : ℕ) → ((x : ℕ) → times x u.drawn ≤ once_below x n) → (x : ℕ) → times x a + times x b ≤ 1
  merge_apart n t x = let d = ap (λ (z : View). times x z.drawn) e in let f = times-append x v.drawn w.drawn in let m = h x in let o = k x in let l = t x in let z = once_le x n in omega arith

  pub merge_has : HasOpen u (a ++ b)
  merge_has x = let d = ap (λ (z : View). times x z.drawn) e in let g = ap (λ (z : View). times x z.kept) e in let f = times-append x v.drawn w.drawn in
      let q = times-append x v.kept w.kept in let s = times-append x a b in let m = h x in let o = k x in omega arith
