-- What keeps rows the sums of blocks.
use Rattle.std.proofs.Common.{ℕ, ◌*◌, ⊎_elim, List, [], ◌∷◌, ◌++◌, subst, arith, inl, inr}
use Rattle.std.specs.Prelude.{ℤ}
use Rattle.std.proofs.lemmas.List.Elements.{Contains-append_cases, Contains-append_left, Contains-append_right}
use mathlib.Core.Logic.{dite}
use native.Mathlib.Decide.{ℕ_discrete, dec_le}
use Rattle.lift_core.proofs.Lists.{contains_nothing}
use Rattle.stage_store.specs.Stage.{StageValue}
use Rattle.lift_core.specs.Times.{times}
use Rattle.norm_board.specs.Blocks.{Sums, block_end}
use Rattle.stage_store.specs.Numbered.{IsSumNumbered, GainsNumbered}
use Rattle.lift_core.proofs.Times.{times-append, times_same, times_other}

module _ (st : StageValue) (e : ℕ) where
  pub sums_empty : Sums st e [] []
  sums_empty = record { sound = λ z h. absurd (contains_nothing z h); whole = λ b z h i. absurd (omega arith) }

  pub sums-append : (a b : List ℕ) (r q : List (List ℤ)) → Sums st e a r → Sums st e b q → Sums st e (a ++ b) (r ++ q)
  sums-append a b r q f g = record {
    sound = λ y h. ⊎_elim
        (λ k. let s = f.sound y k in (s.0, (let t = times-append s.0 a b in let u = s.1 in omega arith), s.2))
        (λ k. let s = g.sound y k in (s.0, (let t = times-append s.0 a b in let u = s.1 in omega arith), s.2))
        (Contains-append_cases r q y h);
    whole = λ c y h i. dite (dec_le 1 (times c a))
        (λ here. Contains-append_left r q y (f.whole c y here i))
        (λ gone. Contains-append_right r q y (g.whole c y (let t = times-append c a b in omega arith) i));
  }

  -- one block more
  pub sums_more : (a : List ℕ) (b : ℕ) (r new : List (List ℤ)) → Sums st e a r → GainsNumbered st e (256 * b) (block_end st e b) r new → Sums st e (a ++ b ∷ []) new
  sums_more a b r new f g = record {
    sound = λ z h. elim ((g z).0 h) [
      | inl o ↦ let s = f.sound z o in (s.0, (let t = times-append s.0 a (b ∷ []) in let u = s.1 in omega arith), s.2)
      | inr n ↦ (b, (let t = times-append b a (b ∷ []) in let u = times_same b in omega arith), n)
    ];
    whole = λ c z h i. dite (ℕ_discrete c b)
        (λ same. (g z).1 (inr (subst (λ (k : ℕ). IsSumNumbered st e (256 * k) (block_end st e k) z) same i)))
        (λ other. (g z).1 (inl (f.whole c z (let t = times-append c a (b ∷ []) in let u = times_other c b other in omega arith) i)));
  }
