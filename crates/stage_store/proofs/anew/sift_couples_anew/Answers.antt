-- Of two rows of one table one comes later: with it the pair with the other's negative was sifted, and by the law of
-- negatives the pair of the negatives of both.
use Rattle.std.proofs.Common.{length, arith}
use borrow.Author.Count.{below_more}
use Rattle.stage_store.specs.Sieve.{IsCoupleSifted}
use Rattle.stage_store.proofs.Sifting.{couple_stays, couples_sifted, stay_through}
use Rattle.stage_store.proofs.anew.sift_couples_anew.Goals as goal

pub loop-k-preserved : goal.loop-k-preserved
loop-k-preserved c = record {
  count = c.sift_couple_anew.ensures.count;
  stay = stay_through _ _ _ c.loop-k.invariant.stay c.sift_couple_anew.ensures.stay;
  sifted = below_more (IsCoupleSifted c.args.system.now.equations c.args.listed.now.rows c.sift_couple_anew.new.shelves c.args.mirror.now c.args.plus.now.ids.items c.args.minus.now.ids.items) c.loop-k.k
      (λ k l. couple_stays c.args.system.now.equations c.args.listed.now.rows c.loop-k.shelves c.sift_couple_anew.new.shelves c.args.mirror.now c.args.plus.now.ids.items c.args.minus.now.ids.items k c.sift_couple_anew.ensures.stay (c.loop-k.invariant.sifted k l))
      c.in_ok-sift_couple_anew.ensures.sifted;
}

pub returns-clause-sifted : goal.returns-clause-sifted
returns-clause-sifted c =
    couples_sifted c.args.system.now.equations c.args.listed.now.rows (length c.args.reaches.now) c.args.plus.now c.args.minus.now c.loop-k.shelves c.args.mirror.now c.requires.reach_count c.requires.mirror c.requires.couples c.requires.plus c.requires.minus
    (λ k l. c.loop-k.invariant.sifted k (omega (arith, l, c.loop-k-test.false, c.len-k-end.ensures)))

pub returns-in_err-sift_couple_anew-clause-stay : goal.returns-in_err-sift_couple_anew-clause-stay
returns-in_err-sift_couple_anew-clause-stay c = stay_through _ _ _ c.loop-k.invariant.stay c.sift_couple_anew.ensures.stay
