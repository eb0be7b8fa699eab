use Rattle.std.proofs.Common.{◌∙◌}
use Rattle.stage_store.proofs.LineBits.{marks_through}
use Rattle.stage_store.proofs.lines.Lines.mark.Goals as goal

pub loop-k-preserved : goal.loop-k-preserved
loop-k-preserved c = record {
  count = c.mark_item.ensures.count ∙ c.loop-k.invariant.count;
  marks = marks_through c.args.upper c.args.levels.now c.args.q c.args.self.now c.loop-k.self-inside.words.items c.mark_item.new.words.items c.loop-k.invariant.count c.loop-k.invariant.marks c.mark_item.ensures.marks;
}
