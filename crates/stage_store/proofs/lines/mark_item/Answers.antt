-- The row's bit is set in one line more, and that line is one that is said of the item; the others are as before.
use Rattle.std.proofs.Common.{◌≡◌, ◌∙◌, ◌+◌, ◌*◌, ◌/◌, ◌%◌, ◌<◌, ℕ, length, get_or, ap, sym, subst, subst₂, arith}
use Rattle.std.proofs.lemmas.List.{length-set}
use Rattle.stage_store.specs.Lines.{IsSaid, IsSaidLevel, MarksRow}
use Rattle.stage_store.proofs.LineBits.{mark_one}
use Rattle.stage_store.proofs.lines.mark_item.Goals as goal

pub loop-l-preserved : goal.loop-l-preserved
loop-l-preserved c =
    let m : ℕ = 8 * c.args.k + c.loop-l.l in
    let small : c.loop-l.l < 8 = omega (arith, c.loop-l-test.true, c.said_levels-from.ensures.to) in
    let item : (8 * c.args.k + c.loop-l.l) / 8 ≡ c.args.k = omega (arith, small) in
    let level : (8 * c.args.k + c.loop-l.l) % 8 ≡ c.loop-l.l = omega (arith, small) in
    let said : IsSaid c.args.upper c.args.levels.now (8 * c.args.k + c.loop-l.l) =
    subst₂ (λ (i l : ℕ). IsSaidLevel c.args.upper (get_or c.args.levels.now i 0) l) (sym item) (sym level)
    (c.said_levels-from.ensures.said c.loop-l.l c.loop-l.auto.l c.loop-l-test.true) in
    record {
      count = ap length c.set_bit.ensures ∙ length-set c.loop-l.words.items (8 * c.args.k + c.loop-l.l) _ ∙ c.loop-l.invariant.count;
      marks = subst (MarksRow c.args.upper c.args.levels.now c.args.q c.args.words.now.items) (sym c.set_bit.ensures)
          (mark_one c.args.upper c.args.levels.now c.args.q (8 * c.args.k + c.loop-l.l) c.args.words.now.items c.loop-l.words.items (omega (arith, small, c.requires.item, c.requires.count, c.loop-l.invariant.count)) c.requires.row said c.loop-l.invariant.marks);
    }
