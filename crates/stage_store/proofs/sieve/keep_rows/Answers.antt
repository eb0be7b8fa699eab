-- The pair of the negatives has the norm of the pair itself, and is kept on the same shelf.
use Rattle.std.proofs.Common.{◌≡◌, ◌∙◌, ◌+◌, ◌<◌, ap, arith, length}
use Rattle.lift_core.specs.Stages.{stage_norm}
use Rattle.stage_store.specs.Classes.{row_at}
use Rattle.stage_store.specs.Mirror.{place_in}
use Rattle.stage_store.specs.Sieve.{pair_by}
use Rattle.stage_store.proofs.Sifting.{on_ok_kept}
use Rattle.stage_store.proofs.sieve.keep_rows.Goals as goal

pub returns-clause-turned : goal.returns-clause-turned
returns-clause-turned c =
    let one : c.norm_of-one.result ≡ stage_norm (row_at c.args.listed.now.rows c.args.i) = c.norm_of-one.ensures ∙ ap stage_norm c.row.ensures.row in
    let two : c.norm_of-two.result ≡ stage_norm (row_at c.args.listed.now.rows c.args.j) = c.norm_of-two.ensures ∙ ap stage_norm c.row-2.ensures.row in
    let norm : c.norm_of-one.result + c.norm_of-two.result ≡ stage_norm (row_at c.args.listed.now.rows c.args.i) + stage_norm (row_at c.args.listed.now.rows c.args.j) = omega (arith, one, two) in
    let is : c.pair_of-2.result ≡ pair_by c.args.side (stage_norm (row_at c.args.listed.now.rows c.args.i) + stage_norm (row_at c.args.listed.now.rows c.args.j)) (place_in c.args.mirror.now c.args.j) (place_in c.args.mirror.now c.args.i) =
    c.pair_of-2.ensures ∙ ap (λ n. pair_by c.args.side n (place_in c.args.mirror.now c.args.j) (place_in c.args.mirror.now c.args.i)) norm in
    on_ok_kept c.keep-2.new.self c.pair_of-2.result (pair_by c.args.side (stage_norm (row_at c.args.listed.now.rows c.args.i) + stage_norm (row_at c.args.listed.now.rows c.args.j)) (place_in c.args.mirror.now c.args.j) (place_in c.args.mirror.now c.args.i))
    (c.args.i < length c.args.mirror.now) (c.args.j < length c.args.mirror.now) c.keep-2.result is c.keep-2.ensures.kept
