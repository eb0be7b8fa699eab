-- The sums of both books are those of the blocks of both.
use Rattle.std.proofs.Common.{◌≡◌, ◌∙◌, ◌++◌, ℕ, List, ap, sym, subst, arith, false, true}
use Rattle.std.specs.Prelude.{ℤ}
use Rattle.norm_board.specs.Books.{BookValue}
use Rattle.stage_store.specs.Stage.{StageValue}
use Rattle.norm_board.specs.Blocks.{Sums}
use Rattle.norm_board.proofs.Rows.{sums-append}
use Rattle.norm_board.proofs.book.Book.take_in.Goals as goal

false_true : false ≡ true → ⊥
false_true e = cc

pub invariant_of-self-2 : goal.invariant_of-self-2
invariant_of-self-2 c =
    let st = c.self.inside.stage.value in
    let i = c.self.invariant in
    let norm : ℕ = c.self.inside.norm in
    let same : c.other.inside.stage.value ≡ st = ap (λ (b : BookValue). b.stage) c.other.view_is ∙ sym c.requires.stage ∙ sym (ap (λ (b : BookValue). b.stage) c.self.view_is) in
    let same' : c.other.inside.norm ≡ norm = ap (λ (b : BookValue). b.norm) c.other.view_is ∙ sym c.requires.norm ∙ sym (ap (λ (b : BookValue). b.norm) c.self.view_is) in
    let half = subst (λ (t : StageValue). Sums t c.other.inside.norm c.other.inside.blocks.numbers c.other.inside.rows.rows) same c.other.invariant.sums in
    let theirs = subst (λ (n : ℕ). Sums st n c.other.inside.blocks.numbers c.other.inside.rows.rows) same' half in
    let rows : c.append_from.new.self.rows ≡ c.self.inside.rows.rows ++ c.other.inside.rows.rows
    = c.append_from.ensures.rows ∙ ap (λ (l : List (List ℤ)). l ++ c.other.inside.rows.rows) c.in_ok-reserve.ensures.same.1 in
    let numbers : c.append.new.self.numbers ≡ c.self.inside.blocks.numbers ++ c.other.inside.blocks.numbers
    = c.append.ensures.numbers ∙ ap (λ (l : List ℕ). l ++ c.other.inside.blocks.numbers) c.in_ok-reserve_for.ensures.numbers in
    record {
      small = i.small;
      sums = rw (numbers, rows) (sums-append st norm c.self.inside.blocks.numbers c.other.inside.blocks.numbers c.self.inside.rows.rows c.other.inside.rows.rows i.sums theirs);
      width_is = c.append_from.ensures.width ∙ c.in_ok-reserve.ensures.same.0 ∙ i.width_is;
      narrow = omega (arith, c.append_from.ensures.width, c.in_ok-reserve.ensures.same.0, i.narrow);
      spare = λ f. absurd (false_true f);
      run = λ f. absurd (false_true f);
    }
