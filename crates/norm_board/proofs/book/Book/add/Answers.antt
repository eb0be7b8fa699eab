-- With the block's irreducible sums the book has those of all its blocks.
use Rattle.std.proofs.Common.{◌≡◌, ◌+◌, ◌*◌, ◌∙◌, ℕ, arith, ap, sym, subst, subst₂, false, true}
use Rattle.stage_store.specs.Stage.{StageValue}
use Rattle.norm_board.specs.Books.{BookValue}
use Rattle.norm_board.specs.Blocks.{IsBlockOf, block_end}
use Rattle.stage_store.specs.Numbered.{GainsNumbered}
use Rattle.norm_board.proofs.Rows.{sums_more}
use Rattle.norm_board.proofs.book.Book.add.Goals as goal

false_true : false ≡ true → ⊥
false_true e = cc

pub invariant_of-self : goal.invariant_of-self
invariant_of-self c =
    let st = c.self.inside.stage.value in
    let norm : ℕ = c.self.inside.norm in
    let i = c.self.invariant in
    let b = c.args.block in
    let old = c.self.inside.rows.rows in
    let new = c.gather.new.rows.rows in
    let same : c.args.stage.now ≡ st = sym (ap (λ (v : BookValue). v.stage) c.self.view_is ∙ c.requires.stage) in
    let block : IsBlockOf st norm b = subst (λ (v : BookValue). IsBlockOf v.stage v.norm b) (sym c.self.view_is) c.requires.block in
    let g : GainsNumbered st norm b.first (b.first + b.count) old new = subst (λ (s : StageValue). GainsNumbered s norm b.first (b.first + b.count) old new) same c.gather.ensures.gains in
    let h : GainsNumbered st norm (256 * b.number) (block_end st norm b.number) old new = subst₂ (λ (from to : ℕ). GainsNumbered st norm from to old new) block.first block.end g in
    record {
      small = i.small;
      sums = rw c.push.ensures (sums_more st norm c.self.inside.blocks.numbers b.number old new i.sums h);
      width_is = c.gather.ensures.width ∙ i.width_is;
      narrow = omega (arith, c.gather.ensures.width, i.narrow);
      spare = λ f. absurd (false_true f);
      run = λ f. absurd (false_true f);
    }
