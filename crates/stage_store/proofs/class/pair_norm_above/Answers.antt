-- For a class of first rows the least partner is the least norm above what d leaves; the least of these sums so far is
-- the least above d of the pairs whose first row is in a class that was seen.
use Rattle.std.proofs.Common.{◌≡◌, ℕ, ◌+◌, ◌≤◌, ap, ◌∙◌, sym, Some}
use Rattle.stage_store.specs.Classes.{norm_at, class_norm}
use Rattle.stage_store.specs.Least.{lesser_lem}
use Rattle.stage_store.proofs.Classes.{class_at}
use Rattle.stage_store.proofs.Least.{step_some, step_none, all_classes}
use Rattle.stage_store.proofs.class.pair_norm_above.Goals as goal
use Rattle.stage_store.proofs.class.pair_norm_above.Goals.{in-Some, in-None}

pub loop-c-preserved : goal.loop-c-preserved
loop-c-preserved c =
    let plus = c.args.plus.now in
    let minus = c.args.minus.now in
    let i : ℕ = c.loop-c.c-index in
    let at : c.norm.result ≡ norm_at plus i = c.norm.ensures ∙ ap class_norm (class_at plus i c.c-item.result c.loop-c-test.true c.c-item.is) in
    let small : norm_at plus i ≤ c.args.d = c.requires.plus i c.loop-c-test.true in
    elim c.match-norm_above.branch [
      | in-Some w ↦ step_some plus minus c.args.d i c.loop-c.least c.norm_above.result c.match-norm_above.least c.norm.result w.in-Some.m c.loop-c-test.true at small c.norm_above.ensures w.in-Some.is c.loop-c.invariant
          (w.least-is ∙ w.lesser-least.ensures ∙ ap (λ n. lesser_lem c.loop-c.least (Some (n + w.in-Some.m))) (w.norm-in-Some.ensures ∙ sym c.norm.ensures))
      | in-None w ↦ step_none plus minus c.args.d i c.loop-c.least c.norm_above.result c.match-norm_above.least c.norm.result c.loop-c-test.true at small c.norm_above.ensures w.in-None.is c.loop-c.invariant w.least-is
    ]

pub returns : goal.returns
returns c = all_classes c.args.plus.now c.args.minus.now c.args.d c.loop-c.c-index c.loop-c.least c.loop-c-test.false c.loop-c.invariant
