-- A support is taken where no kept one lies in it, and else passed over.
use Rattle.std.proofs.Common.{◌≡◌, ◌+◌, [], drop, ap, ◌∙◌, true, false, get_or}
use Rattle.std.specs.List.{list_any}
use Rattle.circuit_tool.specs.Inside.Supports.{least_from, is_within}
use Rattle.circuit_tool.proofs.Keeping.{least_passed, least_taken}
use Rattle.circuit_tool.proofs.supports.least.Goals as goal
use Rattle.circuit_tool.proofs.supports.least.Goals.{then-not-has_within+in_ok-push, else-not-has_within}

pub loop-word-preserved : goal.loop-word-preserved
loop-word-preserved c =
    let words = c.args.words.now in
    let i = c.loop-word.word-index in
    elim c.if-not-has_within.branch [
      | then-not-has_within+in_ok-push w ↦
          let none : list_any (λ k. is_within k (get_or words i 0)) c.loop-word.kept.items ≡ false = cc (c.has_within.ensures, w.if-not-has_within.true, c.deref.ensures.value) in
          least_taken c.loop-word.kept.items c.if-not-has_within.kept.items words i 0 (least_from [] words) c.loop-word-test.true none
          (ap (λ v. v.items) w.kept-is ∙ w.in_ok-push.ensures.items) c.loop-word.invariant
      | else-not-has_within w ↦
          let some : list_any (λ k. is_within k (get_or words i 0)) c.loop-word.kept.items ≡ true = cc (c.has_within.ensures, w.if-not-has_within.false, c.deref.ensures.value) in
          ap (λ v. least_from v.items (drop (i + 1) words)) w.kept-is ∙ least_passed c.loop-word.kept.items words i 0 (least_from [] words) c.loop-word-test.true some c.loop-word.invariant
    ]
