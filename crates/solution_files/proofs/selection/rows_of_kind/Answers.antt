-- A row of the kind is taken, and any other passed over.
use Rattle.std.proofs.Common.{◌≡◌, ◌<◌, ◌≤◌, ◌+◌, ◌++◌, [], ◌∷◌, length, sym, ap, ◌∙◌, arith, length-append, drop, subst, true}
use Rattle.int_vector.specs.Range.{InRange}
use Rattle.lift_core.specs.Kinds.{HasX0}
use Rattle.std.proofs.lemmas.List.Elements.{recursion_from_All}
use Rattle.solution_files.specs.Outputs.{kind_of}
use Rattle.lift_core.specs.Inside.OrderedRows.{rows_behind}
use Rattle.solution_files.specs.Steps.{projected, AreRows}
use Rattle.solution_files.proofs.SelectedRows.{one_more_taken, one_more_passed, rows_taken}
use Rattle.solution_files.proofs.selection.rows_of_kind.Goals as goal
use Rattle.solution_files.proofs.selection.rows_of_kind.Goals.{then-is_of_kind+in_ok-push, else-is_of_kind}

pub is_of_kind-requires : goal.is_of_kind-requires
is_of_kind-requires c = omega (arith, c.keeps.ensures.some_columns, c.keeps.ensures.first_columns, c.row-row.ensures.width, c.requires)

pub loop-place-preserved : goal.loop-place-preserved
loop-place-preserved c =
    let n = c.args.finish.now.system.n in
    let finished = c.args.finish.now.rows.rows in
    let inside : c.loop-place.place < length finished = omega (arith, c.len-place-end.ensures) in
    let long : n ≤ length c.row-row.result.now = omega (arith, c.keeps.ensures.first_columns, c.row-row.ensures.width, c.requires) in
    elim c.if-is_of_kind.branch [
      | then-is_of_kind+in_ok-push w ↦
          let pushed : c.if-is_of_kind.rows.items ≡ c.loop-place.rows.items ++ w.written.result ∷ [] = ap (λ v. v.items) w.rows-is ∙ w.in_ok-push.ensures.items in
          record {
            so_far = one_more_taken n (kind_of c.args.kind) finished c.loop-place.place c.row-row.result.now c.loop-place.rows.items c.if-is_of_kind.rows.items w.written.result (projected n (kind_of c.args.kind) finished) inside c.row-row.ensures.row (c.is_of_kind.ensures.0 w.if-is_of_kind.true) w.written.ensures pushed c.loop-place.invariant.so_far;
            shape = rows_taken n c.row-row.result.now c.loop-place.rows.items c.if-is_of_kind.rows.items w.written.result long (recursion_from_All InRange c.row-row.result.now c.row-row.ensures.range) w.written.ensures pushed c.loop-place.invariant.shape;
            count = omega (arith, ap length pushed, length-append c.loop-place.rows.items (w.written.result ∷ []));
          }
      | else-is_of_kind w ↦
          let same : c.if-is_of_kind.rows.items ≡ c.loop-place.rows.items = ap (λ v. v.items) w.rows-is in
          let other : HasX0 (kind_of c.args.kind) c.row-row.result.now → ⊥ = λ h. (let e : c.is_of_kind.result ≡ true = c.is_of_kind.ensures.1 h in cc) in
          record {
            so_far =
                ap (λ refs. rows_behind refs ++ projected n (kind_of c.args.kind) (drop (c.loop-place.place + 1) finished)) same
                ∙ one_more_passed n (kind_of c.args.kind) finished c.loop-place.place c.row-row.result.now c.loop-place.rows.items (projected n (kind_of c.args.kind) finished) inside c.row-row.ensures.row other c.loop-place.invariant.so_far;
            shape = subst (λ refs. AreRows n (rows_behind refs)) (sym same) c.loop-place.invariant.shape;
            count = omega (arith, ap length same);
          }
    ]
