-- The rows with positive last entry are taken one after another, each with its negative; at the end each row is in its
-- table, since the mirror gives each negative.
use Rattle.std.proofs.Common.{◌≡◌, ◌∙◌, ℕ, length, ap, sym, subst, arith, refl, false}
use Rattle.lift_core.specs.Stages.{has_positive_last}
use Rattle.stage_store.specs.Classes.{row_at}
use Rattle.stage_store.specs.Sieve.{AreCoupledTo}
use Rattle.stage_store.proofs.Sifting.{couples_begin, couples_end, couple_none}
use Rattle.stage_store.proofs.sieve.Sieve.sift_couples.Goals as goal

pub loop-i-init : goal.loop-i-init
loop-i-init c = record {
  reach_count = c.requires.reach_count;
  coupled = couples_begin c.args.system.now.equations c.args.listed.now.rows c.args.norm c.args.self.now.rows c.args.self.now c.requires.turned c.requires.within c.requires.upto;
  room = c.requires.room;
}

pub loop-i-preserved-then-not-has_sign : goal.loop-i-preserved-then-not-has_sign
loop-i-preserved-then-not-has_sign c =
    let under : has_positive_last (row_at c.args.listed.now.rows c.loop-i.i) ≡ false = ap has_positive_last (sym c.row.ensures.row) ∙ sym c.has_sign.ensures ∙ c.if-not-has_sign.true in
    record {
      reach_count = c.loop-i.invariant.reach_count;
      coupled = couple_none c.args.system.now.equations c.args.listed.now.rows c.loop-i.self.mirror.items c.loop-i.invariant.coupled.whole c.loop-i.i (omega (arith, c.loop-i-test.true, c.len-i-end.ensures)) c.args.norm c.loop-i.self refl
          c.loop-i.invariant.coupled under;
      room = c.loop-i.invariant.room;
    }

pub returns-clause-upto : goal.returns-clause-upto
returns-clause-upto c =
    let all : c.loop-i.i ≡ length c.args.listed.now.rows = omega (arith, c.loop-i-test.false, c.len-i-end.ensures, c.loop-i.auto, c.requires.within) in
    couples_end c.args.system.now.equations c.args.listed.now.rows c.args.norm c.loop-i.self
    (subst (λ (n : ℕ). AreCoupledTo c.args.system.now.equations c.args.listed.now.rows c.args.norm n c.loop-i.self) all c.loop-i.invariant.coupled)
