-- The line answered is one of the item's eight, and its word was read to have the row's bit.
use Rattle.std.proofs.Common.{◌≡◌, ◌∙◌, ◌+◌, ◌*◌, ◌<◌, List, ℕ, length, get_or, ap, sym, arith}
use Rattle.std.specs.Int.{bit_at}
use Rattle.std.proofs.lemmas.List.{get_or_default}
use Rattle.std.proofs.lemmas.Nat.Bits.{shr_and_one}
use Rattle.stage_store.proofs.lines.Lines.marked_in.Goals as goal

pub returns-then-index-q-eq1 : goal.returns-then-index-q-eq1
returns-then-index-q-eq1 c =
    let place : ℕ = 8 * c.args.item + c.level_at.result in
    let few : 8 * c.args.item + c.level_at.result < length c.args.self.now = omega (arith, c.level_at.ensures, c.requires.item) in
    let inside : 8 * c.args.item + c.level_at.result < length c.self.inside.words.items = omega (arith, few, ap length c.self.view_is) in
    let word : c.index.result.now ≡ get_or c.args.self.now (8 * c.args.item + c.level_at.result) 0 =
    c.index.ensures ∙ get_or_default c.self.inside.words.items (8 * c.args.item + c.level_at.result) c.index.result.now 0 inside ∙ ap (λ (l : List ℕ). get_or l (8 * c.args.item + c.level_at.result) 0) c.self.view_is in
    (few, ap (λ w. bit_at w c.args.q) (sym word) ∙ sym (shr_and_one c.index.result.now c.args.q) ∙ c.if-index-q-eq1.true)
