-- Where the line is none of the word, or its count is too large, no count fits it.
use Rattle.std.proofs.Common.{arith, ap, refl, ◌≡◌, ◌∷◌, [], true, get_or, List, ℕ}
use Rattle.restart_file.proofs.counts.count_in.Goals as goal

pub returns-then-not-branch : goal.returns-then-not-branch
returns-then-not-branch c = λ n h.
    let e : c.in_ok-counts_in.field-0 ≡ true = (c.in_ok-counts_in.ensures.complete (n ∷ []) refl (omega (arith, h.within, c.requires), tt) h.written).0 in
    absurd cc

pub returns-then-counts-most : goal.returns-then-counts-most
returns-then-counts-most c = λ n h.
    let e : c.counts_in.new.counts ≡ n ∷ [] = (c.in_ok-counts_in.ensures.complete (n ∷ []) refl (omega (arith, h.within, c.requires), tt) h.written).1 in
    omega (arith, h.within, c.if-counts-most.true, ap (λ (xs : List ℕ). get_or xs 0 0) e)
