-- Where the line is no classes, or one of its counts is too large, no counts fit it.
use Rattle.std.proofs.Common.{◌≡◌, ◌≤◌, true, sym, subst, ℕ, List}
use Rattle.std.specs.List.{AllByRecursion}
use Rattle.int_vector.specs.Vectors.{largest}
use Rattle.restart_file.proofs.CountLines.{all_within}
use Rattle.restart_file.proofs.counts.classes_in.Goals as goal

pub returns-then-not-branch : goal.returns-then-not-branch
returns-then-not-branch c = λ ns h.
    let e : c.in_ok-counts_in.field-0 ≡ true = (c.in_ok-counts_in.ensures.complete ns h.three (all_within ns c.args.most largest c.requires h.within) h.written).0 in
    absurd cc

pub returns-else-are_within : goal.returns-else-are_within
returns-else-are_within c = λ ns h.
    let same : c.counts_in.new.counts ≡ ns = (c.in_ok-counts_in.ensures.complete ns h.three (all_within ns c.args.most largest c.requires h.within) h.written).1 in
    let e : c.are_within.result ≡ true = c.are_within.ensures.1 (subst (λ (xs : List ℕ). AllByRecursion (λ n. n ≤ c.args.most) xs) (sym same) h.within) in
    absurd cc
