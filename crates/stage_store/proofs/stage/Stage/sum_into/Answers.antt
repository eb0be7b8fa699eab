-- A pair has a sum where no entries of opposite signs meet and no cap is passed; as norms add up, each entry of the sum
-- is in range.
use Rattle.std.proofs.Common.{◌≡◌, ◌∙◌, arith, length, refl, ap, ◌≤◌, ◌+◌, get_or}
use Rattle.std.proofs.lemmas.List.Elements.{All-get_or}
use Rattle.int_vector.specs.Range.{InRange}
use Rattle.std.specs.Prelude.{pos, nat_abs}
use Rattle.stage_store.specs.Stage.{row_of, equations_of}
use Rattle.stage_store.proofs.Sums.{has_no_sum, no_sum_by_caps, has_sum, pair_fits, sum_in_range}
use Rattle.stage_store.proofs.stage.Stage.sum_into.Goals as goal

pub returns-then-not-sum_obeys_caps-clause-sum : goal.returns-then-not-sum_obeys_caps-clause-sum
returns-then-not-sum_obeys_caps-clause-sum c =
    let n : length c.row-first.result.now ≡ c.width-width.result + 1 = omega (arith, c.row-first.ensures.width, c.self.invariant.listed_width, c.width-width.ensures.width) in
    let m : length c.row-second.result.now ≡ c.width-width.result + 1 = omega (arith, c.row-second.ensures.width, c.self.invariant.listed_width, c.width-width.ensures.width) in (
      λ h. cc,
      λ s. absurd (no_sum_by_caps c.self.inside.system.equations c.args.self.now.system.equations c.row-first.result.now c.row-second.result.now _ _ c.width-width.result c.sum_obeys_caps.result
          (ap equations_of c.self.view_is) (c.row-first.ensures.row ∙ ap (row_of c.args.f.0) c.self.view_is) (c.row-second.ensures.row ∙ ap (row_of c.args.g.0) c.self.view_is) n m c.if-not-sum_obeys_caps.true c.sum_obeys_caps.ensures.1 s),
    )

pub returns-then-not-conformal-clause-sum : goal.returns-then-not-conformal-clause-sum
returns-then-not-conformal-clause-sum c =
    let n : length c.row-first.result.now ≡ c.width-width.result + 1 = omega (arith, c.row-first.ensures.width, c.self.invariant.listed_width, c.width-width.ensures.width) in
    let m : length c.row-second.result.now ≡ c.width-width.result + 1 = omega (arith, c.row-second.ensures.width, c.self.invariant.listed_width, c.width-width.ensures.width) in (
      λ h. cc,
      λ s. absurd (has_no_sum c.args.self.now.system.equations c.row-first.result.now c.row-second.result.now _ _ c.width-width.result c.conformal.result
          (c.row-first.ensures.row ∙ ap (row_of c.args.f.0) c.self.view_is) (c.row-second.ensures.row ∙ ap (row_of c.args.g.0) c.self.view_is) n m c.if-not-conformal.true c.conformal.ensures.1 s),
    )

pub add_into-requires-clause-fits : goal.add_into-requires-clause-fits
add_into-requires-clause-fits c =
    let n : length c.row-first.result.now ≡ c.width-width.result + 1 = omega (arith, c.row-first.ensures.width, c.self.invariant.listed_width, c.width-width.ensures.width) in
    let m : length c.row-second.result.now ≡ c.width-width.result + 1 = omega (arith, c.row-second.ensures.width, c.self.invariant.listed_width, c.width-width.ensures.width) in
    let a : nat_abs (get_or c.row-first.result.now c.width-width.result (pos 0)) ≤ 9223372036854775807 = All-get_or InRange c.row-first.result.now c.width-width.result (pos 0) (omega (arith, n)) c.row-first.ensures.range in
    let b : nat_abs (get_or c.row-second.result.now c.width-width.result (pos 0)) ≤ 9223372036854775807 = All-get_or InRange c.row-second.result.now c.width-width.result (pos 0) (omega (arith, m)) c.row-second.ensures.range in
    pair_fits c.args.self.now.listed c.row-first.result.now c.row-second.result.now _ _ c.width-width.result
    (c.row-first.ensures.row ∙ ap (row_of c.args.f.0) c.self.view_is) (c.row-second.ensures.row ∙ ap (row_of c.args.g.0) c.self.view_is) n m c.requires.pair c.requires.norm a b

pub returns-clause-sum : goal.returns-clause-sum
returns-clause-sum c =
    let n : length c.row-first.result.now ≡ c.width-width.result + 1 = omega (arith, c.row-first.ensures.width, c.self.invariant.listed_width, c.width-width.ensures.width) in
    let m : length c.row-second.result.now ≡ c.width-width.result + 1 = omega (arith, c.row-second.ensures.width, c.self.invariant.listed_width, c.width-width.ensures.width) in (
      λ t. has_sum c.self.inside.system.equations c.args.self.now.system.equations c.row-first.result.now c.row-second.result.now _ _ c.width-width.result c.conformal.result c.sum_obeys_caps.result
          (ap equations_of c.self.view_is) (c.row-first.ensures.row ∙ ap (row_of c.args.f.0) c.self.view_is) (c.row-second.ensures.row ∙ ap (row_of c.args.g.0) c.self.view_is) n m
          c.if-not-conformal.false c.conformal.ensures.0 c.if-not-sum_obeys_caps.false c.sum_obeys_caps.ensures.0,
      λ s. refl,
    )

pub returns-clause-range : goal.returns-clause-range
returns-clause-range c = λ t.
    let n : length c.row-first.result.now ≡ c.width-width.result + 1 = omega (arith, c.row-first.ensures.width, c.self.invariant.listed_width, c.width-width.ensures.width) in
    let m : length c.row-second.result.now ≡ c.width-width.result + 1 = omega (arith, c.row-second.ensures.width, c.self.invariant.listed_width, c.width-width.ensures.width) in
    let a : nat_abs (get_or c.row-first.result.now c.width-width.result (pos 0)) ≤ 9223372036854775807 = All-get_or InRange c.row-first.result.now c.width-width.result (pos 0) (omega (arith, n)) c.row-first.ensures.range in
    let b : nat_abs (get_or c.row-second.result.now c.width-width.result (pos 0)) ≤ 9223372036854775807 = All-get_or InRange c.row-second.result.now c.width-width.result (pos 0) (omega (arith, m)) c.row-second.ensures.range in
    sum_in_range c.row-first.result.now c.row-second.result.now c.add_into.new.out c.add_into.ensures
    (pair_fits c.args.self.now.listed c.row-first.result.now c.row-second.result.now _ _ c.width-width.result
    (c.row-first.ensures.row ∙ ap (row_of c.args.f.0) c.self.view_is) (c.row-second.ensures.row ∙ ap (row_of c.args.g.0) c.self.view_is) n m c.requires.pair c.requires.norm a b)
