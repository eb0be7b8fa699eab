-- Putting a share, and giving the book back as it was.
use Rattle.std.proofs.Common.{◌≡◌, ℕ, ◌+◌, List, [], ◌++◌, false, true, sym, refl, ap, ◌∙◌, arith, append-nil}
use mathlib.Core.Logic.{dite}
use native.Mathlib.Decide.{ℕ_discrete}
use Rattle.norm_board.specs.declared.rule.View.{View}
use Rattle.norm_board.specs.Books.{BookValue}
use Rattle.lift_core.specs.Times.{times, once_below}
use Rattle.norm_board.specs.Puts.{Open, Keeps}
use Rattle.norm_board.specs.Rule.{taking, giving, past, MayGive, KnowsBook}
use Rattle.lift_core.proofs.Times.{times-append}
use Rattle.norm_board.proofs.Lists.{times-past, times-past_found, past_self}

module _ (v : View) (b : BookValue) (f : KnowsBook v b) (s : List ℕ) (o : Open v s) where
  pub past_count : (x : ℕ) → times x (past b.blocks (b.blocks ++ s)) ≡ times x s
  past_count x = let t = times-append x b.blocks s in dite (ℕ_discrete (times x b.blocks) 0)
      (λ z. let p = times-past x b.blocks (b.blocks ++ s) z in omega arith)
      (λ nz. let p = times-past_found x b.blocks (b.blocks ++ s) nz in let a = f.apart x in let q = o x in omega arith)

  pub may_put : MayGive (taking v b.blocks) (b.blocks ++ s)
  may_put = record {
    found = λ x. let p = past_count x in let t = times-append x b.blocks s in omega arith;
    drawn = λ x. let p = past_count x in let q = o x in omega arith;
  }

  pub may_back : MayGive (taking v b.blocks) b.blocks
  may_back = record { found = λ x. let p = ap (times x) (past_self b.blocks) in omega arith; drawn = λ x. let p = ap (times x) (past_self b.blocks) in let q = o x in omega arith }

  pub has_put : Keeps v (giving (taking v b.blocks) (b.blocks ++ s)) s
  has_put = record { weight = refl; done = refl; drawn = refl; missed = refl; kept = λ x. let p = past_count x in let t = times-append x v.kept (past b.blocks (b.blocks ++ s)) in omega arith }

  -- where the pass found no block in hand before, it is as before
  pub has_back : v.holding ≡ false → v.found ≡ [] → giving (taking v b.blocks) b.blocks ≡ v
  has_back h e = λ i. record v { holding = sym h i; found = sym e i; kept = (ap (λ (l : List ℕ). v.kept ++ l) (past_self b.blocks) ∙ append-nil v.kept) i }

-- the pass with all the weight, when it is done, has the whole norm
pub closes : (v : View) (b : BookValue) (s : List ℕ) → KnowsBook v b → v.weight ≡ v.plan.passes → v.done ≡ true → ((x : ℕ) → times x v.kept + times x s ≡ times x v.drawn)
    → (x : ℕ) → times x (b.blocks ++ s) ≡ once_below x v.plan.blocks
closes v b s f all done rest x = let t = times-append x b.blocks s in let w = f.whole all x in let a = f.all all done x in let o = rest x in omega arith
