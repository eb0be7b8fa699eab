-- In a machine that is closed each block stands in the book exactly once, and so the sums of the book are all sums.
-- Between any two events each number below the next one stands once in the book or with one pass, and no other does.
use Rattle.std.proofs.Common.{◌≡◌, ℕ, ◌+◌, ◌*◌, ◌/◌, ◌≤◌, ◌<◌, List, [], ◌∷◌, ◌++◌, length, get_or, refl, ◌∙◌, sym, subst, arith, Bool, true, false, take, suc}
use Rattle.std.specs.Prelude.{ℤ, Err}
use Rattle.std.specs.List.{Contains}
use mathlib.Core.Logic.{dite}
use native.Mathlib.Decide.{ℕ_discrete, dec_le}
use Rattle.lift_core.specs.Systems.{LinearSystem}
use Rattle.lift_core.specs.Lists.{IsListOf}
use Rattle.lift_core.specs.Stages.{norm_cmp, stage_norm, IsPair}
use Rattle.lift_core.specs.PairSums.{IsNewSum}
use Rattle.lift_core.specs.Times.{times, total_of, once_below}
use Rattle.lift_core.specs.PureMachine.{CoreState, core_start, held_at, MayCome, after, Runs, no_event, one_event, Steps, IsRefused, StopsAt, AreNumbered, IsSumInBlock, IsSumsOf}
use Rattle.lift_core.specs.declared.machine.Event.{Event}
use Rattle.lift_core.specs.declared.machine.Event.TheVariants.{Draw, Put, Close}
use Rattle.lift_core.specs.declared.machine.StepEnd.{StepEnd}
use Rattle.lift_core.specs.declared.machine.StepEnd.TheVariants.{NotAllowed, Memory}
use Rattle.std.proofs.Math.Seq.{take-suc}
use Rattle.std.proofs.lemmas.List.{get_or_default}
use Rattle.lift_core.proofs.Times.{times-append, times_same, times_other, once_yes, once_no, contained_times, total-set_at, total-replicate_zero}

-- each number below the next one stands once in the book or with a pass, and no other does
record Keeps (s : CoreState) : Type 0 where
  upto : s.next ≤ s.blocks
  drawn : (n : ℕ) → n < s.next → times n s.book + total_of (times n) s.held ≡ 1
  fresh : (n : ℕ) → s.next ≤ n → times n s.book + total_of (times n) s.held ≡ 0
  whole : s.closed ≡ true → (n : ℕ) → n < s.blocks → Contains s.book n

kept_at_start : (blocks passes : ℕ) → Keeps (core_start blocks passes)
kept_at_start blocks passes = record {
  upto = omega arith;
  drawn = λ n h. absurd (omega arith);
  fresh = λ n h. let t = total-replicate_zero (times n) passes [] refl in omega arith;
  whole = λ e. cc;
}

not_both : (b : Bool) → b ≡ false → b ≡ true → ⊥
not_both b p q = cc

blocks_after : (s : CoreState) (e : Event) → (after s e).blocks ≡ s.blocks
blocks_after s (Draw p) = refl
blocks_after s (Put p) = refl
blocks_after s Close = refl

kept_after : (s : CoreState) (e : Event) → Keeps s → MayCome s e → Keeps (after s e)
kept_after s (Draw p) k a = record {
  upto = omega (arith, a.2);
  drawn = λ n h. let t = total-set_at (times n) s.held p (held_at s p ++ (s.next ∷ [])) [] a.1 in let g = times-append n (held_at s p) (s.next ∷ []) in
      dite (ℕ_discrete n s.next)
      (λ same. let f = k.fresh n (omega arith) in let c : times n (s.next ∷ []) ≡ 1 = subst (λ (m : ℕ). times n (m ∷ []) ≡ 1) same (times_same n) in omega arith)
      (λ other. let f = k.drawn n (omega arith) in let c = times_other n s.next other in omega arith);
  fresh = λ n h. let t = total-set_at (times n) s.held p (held_at s p ++ (s.next ∷ [])) [] a.1 in let g = times-append n (held_at s p) (s.next ∷ []) in
      let f = k.fresh n (omega arith) in let c = times_other n s.next (λ e. omega arith) in omega arith;
  whole = λ e. absurd (not_both s.closed a.0 e);
}
kept_after s (Put p) k a = record {
  upto = k.upto;
  drawn = λ n h. let t = total-set_at (times n) s.held p [] [] a.1 in let g = times-append n s.book (held_at s p) in let f = k.drawn n h in omega arith;
  fresh = λ n h. let t = total-set_at (times n) s.held p [] [] a.1 in let g = times-append n s.book (held_at s p) in let f = k.fresh n h in omega arith;
  whole = λ e. absurd (not_both s.closed a.0 e);
}
kept_after s Close k a = record { upto = k.upto; drawn = k.drawn; fresh = k.fresh; whole = λ e. a.1 }

kept_by_runs : {s t : CoreState} {es : List Event} → Runs s es t → Keeps s → Keeps t
kept_by_runs no_event k = k
kept_by_runs {s} (one_event {e = e} a rest) k = kept_by_runs rest (kept_after s e k a)

same_blocks : {s t : CoreState} {es : List Event} → Runs s es t → t.blocks ≡ s.blocks
same_blocks no_event = refl
same_blocks {s} (one_event {t = t} {e = e} a rest) = same_blocks rest ∙ blocks_after s e

-- in the book of a closed machine each number of a block stands once, and no other does
pub each_once : (blocks passes : ℕ) (es : List Event) (s : CoreState) → Runs (core_start blocks passes) es s → s.closed ≡ true → (n : ℕ) → times n s.book ≡ once_below n blocks
each_once blocks passes es s r c n =
    let k : Keeps s = kept_by_runs r (kept_at_start blocks passes) in
    let b : s.blocks ≡ blocks = same_blocks r in
    let u = k.upto in
    dite (dec_le (suc n) blocks)
    (λ below.
    let m = contained_times n s.book (k.whole c n (omega arith)) in
    let o = once_yes n blocks below in
    dite (dec_le (suc n) s.next)
    (λ l. let d = k.drawn n l in omega arith)
    (λ g. let d = k.fresh n (omega arith) in omega arith))
    (λ above. let o = once_no n blocks (omega arith) in let d = k.fresh n (omega arith) in omega arith)

pub each_contained_in_book : (blocks passes : ℕ) (es : List Event) (s : CoreState) → Runs (core_start blocks passes) es s → s.closed ≡ true → (n : ℕ) → n < blocks → Contains s.book n
each_contained_in_book blocks passes es s r c n l = let b : s.blocks ≡ blocks = same_blocks r in (kept_by_runs r (kept_at_start blocks passes)).whole c n (omega arith)

-- each number below the next one is in the book or with one pass, once
pub each_number_once : (blocks passes : ℕ) (es : List Event) (s : CoreState) → Runs (core_start blocks passes) es s → (n : ℕ) → times n s.book + total_of (times n) s.held ≡ once_below n s.next
each_number_once blocks passes es s r n =
    let k : Keeps s = kept_by_runs r (kept_at_start blocks passes) in
    dite (dec_le (suc n) s.next)
    (λ below. let o = once_yes n s.next below in let d = k.drawn n below in omega arith)
    (λ above. let o = once_no n s.next (omega arith) in let d = k.fresh n (omega arith) in omega arith)

-- one event more at the end of a run
pub runs-push : {s t : CoreState} {es : List Event} (e : Event) → Runs s es t → MayCome t e → Runs s (es ++ (e ∷ [])) (after t e)
runs-push e no_event a = one_event a no_event
runs-push e (one_event b rest) a = one_event b (runs-push e rest a)

-- the event at place i is done after those before it
pub runs_more : (s t u : CoreState) (es : List Event) (i : ℕ) (d : Event) → i < length es → Runs s (take i es) t → MayCome t (get_or es i d) × (u ≡ after t (get_or es i d)) → Runs s (take (i + 1) es) u
runs_more s t u es i d h r a =
    let k : suc i ≡ i + 1 = omega arith in
    subst (λ (j : ℕ). Runs s (take j es) u) k
    (subst (λ (l : List Event). Runs s l u) (sym (take-suc es i d h))
    (subst (λ (x : CoreState). Runs s (take i es ++ (get_or es i d ∷ [])) x) (sym a.1) (runs-push (get_or es i d) r a.0)))

-- a refused event changes nothing
refused_of : (s t : CoreState) (e : Event) (end : StepEnd) → Steps s e t (Err end) → (t ≡ s) × IsRefused s e end
refused_of s t e NotAllowed h = (h.1, h.0)
refused_of s t e Memory h = (h, tt)

pub stops_at : (s t u : CoreState) (es : List Event) (i : ℕ) (d : Event) (end : StepEnd) → i < length es → Runs s (take i es) t → Steps t (get_or es i d) u (Err end) → StopsAt s es u i end
stops_at s t u es i d end h r a =
    let f = refused_of t u (get_or es i Close) end (subst (λ (e : Event). Steps t e u (Err end)) (get_or_default es i d Close h) a) in record {
      inside = h;
      before = subst (λ (x : CoreState). Runs s (take i es) x) (sym f.0) r;
      refused = subst (λ (x : CoreState). IsRefused x (get_or es i Close) end) (sym f.0) f.1;
    }

-- ---- the sums of all blocks are the new sums
module _ (S : LinearSystem) (listed : List (List ℤ)) (e : ℕ) (pairs : List (List ℤ × List ℤ)) (numbered : AreNumbered listed e pairs) where
  new_sum_of_block : (b : ℕ) (z : List ℤ) → IsSumInBlock S listed pairs b z → IsNewSum S listed e z
  new_sum_of_block b z s =
      let c : Contains pairs (s.first, s.second) = (s.number, s.inside, s.pair) in
      let p : IsPair listed s.first s.second × (stage_norm s.first + stage_norm s.second ≡ e) = (numbered s.first s.second).0 c in
      record { first = s.first; second = s.second; pair = p.0; norms = p.1; sum = s.sum; is = s.is; irreducible = s.irreducible }

  block_of_new_sum : (z : List ℤ) → IsNewSum S listed e z → (b : ℕ) × (256 * b < length pairs) × IsSumInBlock S listed pairs b z
  block_of_new_sum z n =
      let c : Contains pairs (n.first, n.second) = (numbered n.first n.second).1 (n.pair, n.norms) in (
        c.0 / 256,
        omega (arith, c.1),
        record { number = c.0; from = omega arith; before = omega arith; inside = c.1; first = n.first; second = n.second; pair = c.2; sum = n.sum; is = n.is; irreducible = n.irreducible },
      )

  pub sums_of_all : (blocks : ℕ) → length pairs ≤ 256 * blocks → (book : List ℕ) → ((b : ℕ) → b < blocks → Contains book b) → (rows : List (List ℤ)) → IsSumsOf S listed pairs book rows → IsListOf norm_cmp (IsNewSum S listed e) rows
  sums_of_all blocks enough book all rows list = record {
    ascending = list.ascending;
    members = λ z. (
      λ c. let m : (b : ℕ) × Contains book b × IsSumInBlock S listed pairs b z = (list.members z).0 c in new_sum_of_block m.0 z m.2,
      λ n. let m : (b : ℕ) × (256 * b < length pairs) × IsSumInBlock S listed pairs b z = block_of_new_sum z n in
          (list.members z).1 (m.0, all m.0 (omega (arith, m.1)), m.2),
    );
  }
