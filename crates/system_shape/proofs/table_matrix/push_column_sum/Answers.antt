-- The entry at column c is 1 where c is j modulo k, and it comes behind those of the columns before c.
use Rattle.std.proofs.Common.{◌≡◌, ◌++◌, ◌∷◌, [], ◌%◌, ◌==◌, ◌∙◌, ap, rules, ℤ, SFits, w64, to_z-of_z}
use Rattle.system_shape.specs.Tables.{mark}
use Rattle.system_shape.proofs.Counted.{cell_more}
use Rattle.system_shape.proofs.table_matrix.push_column_sum.Goals as goal

pub loop-c-preserved : goal.loop-c-preserved
loop-c-preserved c =
    let fits : SFits w64 c.mark.result = search rules in
    let pushed : c.push.new.self.items ≡ c.loop-c.cells.items ++ c.mark.result ∷ [] = simp to_z-of_z at c.in_ok-push.ensures.items in
    pushed ∙ ap (λ (z : ℤ). c.loop-c.cells.items ++ z ∷ []) c.mark.ensures
    ∙ cell_more (λ n. mark (n % c.args.k == c.args.j)) c.args.cells.now.items c.loop-c.cells.items c.loop-c.c c.loop-c.invariant
