-- Each bit so far is one of a line that was read, so reading one line more, or leaving off when all bits are set, names
-- only rows that are in a line.
use Rattle.std.proofs.Common.{◌∙◌, ◌<◌, ℕ, List, length, get_or, ap, arith}
use Rattle.std.proofs.lemmas.List.{get_or_default}
use Rattle.stage_store.proofs.LineBits.{read_more}
use Rattle.stage_store.proofs.lines.Lines.any.Goals as goal

pub loop-k-preserved : goal.loop-k-preserved
loop-k-preserved c =
    let inside : get_or c.args.places.now c.loop-k.k 0 < length c.self.inside.words.items = omega (arith, ap length c.self.view_is, c.requires c.loop-k.k c.loop-k-test.true) in
    read_more c.loop-k.k c.loop-k.bits c.index.result.now c.args.self.now c.args.places.now
    (c.index.ensures ∙ get_or_default c.self.inside.words.items (get_or c.args.places.now c.loop-k.k 0) c.index.result.now 0 inside ∙ ap (λ (l : List ℕ). get_or l (get_or c.args.places.now c.loop-k.k 0) 0) c.self.view_is) c.loop-k.invariant

pub returns-then-bits : goal.returns-then-bits
returns-then-bits c = λ r rl bit.
    let inside : get_or c.args.places.now c.loop-k.k 0 < length c.self.inside.words.items = omega (arith, ap length c.self.view_is, c.requires c.loop-k.k c.loop-k-test.true) in
    let x = read_more c.loop-k.k c.loop-k.bits c.index.result.now c.args.self.now c.args.places.now
    (c.index.ensures ∙ get_or_default c.self.inside.words.items (get_or c.args.places.now c.loop-k.k 0) c.index.result.now 0 inside ∙ ap (λ (l : List ℕ). get_or l (get_or c.args.places.now c.loop-k.k 0) 0) c.self.view_is) c.loop-k.invariant r rl bit in
    (x.0, omega (arith, x.1, c.loop-k-test.true), x.2)
