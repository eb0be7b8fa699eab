-- A word that the bounds do not admit rules out its group, and an eight that is not ruled out is looked at.
use Rattle.std.proofs.Common.{◌≡◌, ℕ, ◌+◌, ◌-◌, ◌*◌, ◌/◌, ◌∙◌, List, length, take, drop, refl, subst, arith}
use Rattle.std.specs.Option.{MatchOption}
use Rattle.reduce_tree.specs.declared.bounds.Word.{Word}
use Rattle.reduce_tree.specs.declared.tree.Filed.{Filed}
use Rattle.reduce_tree.specs.Inside.Buckets.{AreCommon, IsRuledOut, AreNoneBelow, IsBelowAt}
use Rattle.reduce_tree.proofs.Buckets.{passed_over}
use Rattle.reduce_tree.proofs.Eights.{none_in_part, found_from}
use Rattle.reduce_tree.proofs.bucket.Bucket.find_below.Goals as goal
use Rattle.reduce_tree.proofs.bucket.Bucket.find_below.Goals.{then-not-rules_out+in_default, else-not-rules_out}

pub loop-eight-preserved-then-rules_out : goal.loop-eight-preserved-then-rules_out
loop-eight-preserved-then-rules_out c =
    let end : 8 * c.loop-eight.eight + 64 ≡ 8 * (c.loop-eight.eight + 8) = omega arith in
    subst (AreNoneBelow c.args.self.now c.args.pool.now.rows c.args.z.now c.args.bounds.now) end
    (passed_over 64 c.args.self.now c.self.inside.blocks.items c.args.pool.now.rows c.args.z.now c.args.bounds.now (c.loop-eight.eight / 8) (8 * c.loop-eight.eight)
    c.requires.marked (subst (λ (v : List Filed). AreCommon 64 c.self.inside.blocks.items v) c.self.view_is c.self.invariant.by_block)
    (subst (λ (ws : List Word). IsRuledOut ws (c.loop-eight.eight / 8) c.args.bounds.now) c.deref.ensures.value (c.if-rules_out.ensures.0 refl))
    (λ j f t. omega (arith, c.if-eight-eq0.true)) c.loop-eight.invariant)

pub loop-eight-preserved : goal.loop-eight-preserved
loop-eight-preserved c =
    elim c.if-not-rules_out.branch [
      | then-not-rules_out+in_default w ↦
          let from : ℕ = 8 * c.loop-eight.eight in
          let same : w.deref-then-not-rules_out.result.now ≡ c.args.self.now = w.deref-then-not-rules_out.ensures.value ∙ c.self.view_is in
          let end : from + (from + 8 - from) ≡ 8 * (c.loop-eight.eight + 1) = omega arith in
          subst (AreNoneBelow c.args.self.now c.args.pool.now.rows c.args.z.now c.args.bounds.now) end
          (none_in_part c.args.self.now (from + 8 - from) from c.args.pool.now.rows c.args.z.now c.args.bounds.now c.loop-eight.invariant
          (subst (λ (v : List Filed). AreNoneBelow (take (from + 8 - from) (drop from v)) c.args.pool.now.rows c.args.z.now c.args.bounds.now (length (take (from + 8 - from) (drop from v)))) same
          w.in_default.ensures))
      | else-not-rules_out w ↦
          let end : 8 * c.loop-eight.eight + 8 ≡ 8 * (c.loop-eight.eight + 1) = omega arith in
          subst (AreNoneBelow c.args.self.now c.args.pool.now.rows c.args.z.now c.args.bounds.now) end
          (passed_over 8 c.args.self.now c.self.inside.eights.items c.args.pool.now.rows c.args.z.now c.args.bounds.now c.loop-eight.eight (8 * c.loop-eight.eight)
          c.requires.marked (subst (λ (v : List Filed). AreCommon 8 c.self.inside.eights.items v) c.self.view_is c.self.invariant.by_eight)
          (subst (λ (ws : List Word). IsRuledOut ws c.loop-eight.eight c.args.bounds.now) c.deref-in-loop-eight.ensures.value (w.if-not-rules_out.ensures.0 refl))
          (λ j f t. omega arith) c.loop-eight.invariant)
    ]

pub returns : goal.returns
returns c =
    let same : c.deref-2.result.now ≡ c.args.self.now = c.deref-2.ensures.value ∙ c.self.view_is in
    let from : ℕ = 8 * c.len-whole.result in
    found_from c.args.self.now from c.args.pool.now.rows c.args.z.now c.args.bounds.now c.find_among.result
    (λ k f l. c.loop-eight.invariant k (omega (arith, f, c.loop-eight-test.false)) l)
    (subst (λ (v : List Filed). MatchOption c.find_among.result
    (AreNoneBelow (take (length v - from) (drop from v)) c.args.pool.now.rows c.args.z.now c.args.bounds.now (length (take (length v - from) (drop from v))))
    (λ id. IsBelowAt (take (length v - from) (drop from v)) c.args.pool.now.rows c.args.z.now c.args.bounds.now id.0)) same c.find_among.ensures)
