-- The line's two counts are the only place that it can say.
use Rattle.std.proofs.Common.{arith, refl, ◌≡◌, ◌∷◌, [], true, get_or}
use Rattle.restart_file.proofs.CountLines.{place_found, two_counts}
use Rattle.restart_file.proofs.counts.place_in.Goals as goal

pub returns-then-not-branch : goal.returns-then-not-branch
returns-then-not-branch c = λ k d place is.
    let e : c.in_ok-counts_in.field-0 ≡ true = (c.in_ok-counts_in.ensures.complete (k ∷ d ∷ []) refl (omega (arith, place.to, c.keeps.ensures.most_rows), (place.small, tt)) is).0 in
    absurd cc

pub returns : goal.returns
returns c =
    let t : c.in_ok-counts_in.field-0 ≡ true = cc in
    place_found c.args.system.now c.args.line.now c.counts_in.new.counts (get_or c.counts_in.new.counts 0 0) (get_or c.counts_in.new.counts 1 0) c.place_of.result (two_counts c.counts_in.new.counts c.in_ok-counts_in.ensures.same) (c.in_ok-counts_in.ensures.sound t)
    (λ k d place is. (c.in_ok-counts_in.ensures.complete (k ∷ d ∷ []) refl (omega (arith, place.to, c.keeps.ensures.most_rows), (place.small, tt)) is).1) c.place_of.ensures
