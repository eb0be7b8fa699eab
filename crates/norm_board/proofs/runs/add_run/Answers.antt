-- A run that follows on the last one is joined to it, and any other is put behind it.
use Rattle.std.proofs.Common.{◌≡◌, ◌∙◌, ◌++◌, ◌∷◌, [], List, ap, sym, refl}
use Rattle.norm_board.specs.declared.runs.Run.{Run}
use Rattle.norm_board.specs.Inside.NumberRuns.{numbers_of, count_up}
use Rattle.norm_board.proofs.NumberRuns.{numbers-push, numbers_longer}
use Rattle.norm_board.proofs.runs.add_run.Goals as goal

pub returns-then-follows-clause-numbers : goal.returns-then-follows-clause-numbers
returns-then-follows-clause-numbers c =
    let run = c.args.run in
    let e : c.args.runs.now.items ≡ c.pop.new.self.items ++ c.in-Some.last ∷ [] = c.in-Some.ensures.items in
    ap numbers_of c.push_reserved-then-follows.ensures.items
    ∙ numbers_longer c.pop.new.self.items c.in-Some.last run _ (c.if-follows.ensures.0 refl) refl
    ∙ ap (λ (l : List Run). numbers_of l ++ count_up run.first run.count) (sym e)

pub returns-else-follows-clause-numbers : goal.returns-else-follows-clause-numbers
returns-else-follows-clause-numbers c =
    let run = c.args.run in
    let e : c.args.runs.now.items ≡ c.pop.new.self.items ++ c.in-Some.last ∷ [] = c.in-Some.ensures.items in
    ap numbers_of c.push_reserved-else-follows-2.ensures.items
    ∙ numbers-push c.push_reserved-else-follows.new.self.items run
    ∙ ap (λ (l : List Run). numbers_of l ++ count_up run.first run.count) (c.push_reserved-else-follows.ensures.items ∙ sym e)
