-- The rows of one table are sifted with all of the other, one after another: each pair has a row in either table.
use Rattle.std.proofs.Common.{[], length, slice_index_or, arith}
use borrow.Author.Count.{below_more}
use Rattle.stage_store.specs.Sieve.{AreSiftedBy}
use Rattle.stage_store.proofs.Sifting.{both_stay, stay_through, sifted_anew}
use Rattle.stage_store.proofs.anew.sift_tables.Goals as goal
use Rattle.stage_store.specs.declared.side.Side.TheVariants.{Plus}

pub loop-k-preserved : goal.loop-k-preserved
loop-k-preserved c = record {
  count = c.sift_row_anew.ensures.count;
  stay = stay_through _ _ _ c.loop-k.invariant.stay c.sift_row_anew.ensures.stay;
  sifted = below_more (λ k. AreSiftedBy Plus c.args.system.now.equations c.args.listed.now.rows c.sift_row_anew.new.shelves [] (slice_index_or c.args.plus.now.ids.items k 0) c.args.minus.now.ids.items) c.loop-k.k
      (λ k l m ml. both_stay Plus c.args.system.now.equations c.args.listed.now.rows [] c.loop-k.shelves c.sift_row_anew.new.shelves (slice_index_or c.args.plus.now.ids.items k 0) (slice_index_or c.args.minus.now.ids.items m 0) c.sift_row_anew.ensures.stay (c.loop-k.invariant.sifted k l m ml))
      (λ m ml. c.in_ok-sift_row_anew.ensures.sifted m (omega (arith, ml, c.len.ensures)));
}

pub returns-clause-sifted : goal.returns-clause-sifted
returns-clause-sifted c =
    sifted_anew c.args.system.now.equations c.args.listed.now.rows (length c.args.reaches.now) c.args.plus.now c.args.minus.now c.loop-k.shelves c.requires.reach_count c.requires.plus c.requires.minus
    (λ k l. c.loop-k.invariant.sifted k (omega (arith, l, c.loop-k-test.false, c.len-k-end.ensures)))

pub returns-in_err-sift_row_anew-clause-stay : goal.returns-in_err-sift_row_anew-clause-stay
returns-in_err-sift_row_anew-clause-stay c = stay_through _ _ _ c.loop-k.invariant.stay c.sift_row_anew.ensures.stay
