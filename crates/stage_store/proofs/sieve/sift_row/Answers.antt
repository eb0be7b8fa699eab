use Rattle.std.proofs.Common.{ℕ, subst, arith}
use Rattle.std.specs.Prelude.{OnOk}
use Rattle.stage_store.specs.Sieve.{AreSiftedBefore}
use Rattle.stage_store.proofs.sieve.sift_row.Goals as goal

pub returns-clause-sifted : goal.returns-clause-sifted
returns-clause-sifted c =
    subst (λ (n : ℕ). OnOk c.sift_first.result (AreSiftedBefore c.args.side c.args.system.now.equations c.args.listed.now.rows c.sift_first.new.shelves c.args.mirror.now c.args.i n c.args.table.now.ids.items))
    (omega (arith, c.len.ensures)) c.sift_first.ensures.sifted
