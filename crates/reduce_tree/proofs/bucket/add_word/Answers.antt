use Rattle.std.proofs.Common.{List, sym, subst}
use Rattle.reduce_tree.specs.declared.bounds.Word.{Word}
use Rattle.reduce_tree.specs.Inside.Buckets.{AreCommon}
use Rattle.reduce_tree.proofs.Buckets.{common_added}
use Rattle.reduce_tree.proofs.bucket.add_word.Goals as goal

pub returns-then-rows-size-eq0 : goal.returns-then-rows-size-eq0
returns-then-rows-size-eq0 c =
    subst (λ (ws : List Word). AreCommon c.args.size ws c.args.rows.now) (sym c.push_reserved.ensures.items)
    (common_added c.args.size c.args.words.now.items c.args.rows.now c.common.result c.requires.size c.requires.some c.requires.before c.if-rows-size-eq0.true c.common.ensures)
