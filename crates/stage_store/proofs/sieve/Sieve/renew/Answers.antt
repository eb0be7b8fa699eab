-- Both tables hold the rows that were sifted, and sifting them against one another from the closed norm on sifts all
-- their pairs anew.
use Rattle.std.proofs.Common.{ℕ, length, ap, sym, subst, refl, arith, ◌∙◌}
use Rattle.std.specs.Prelude.{OnOk}
use Rattle.lift_core.specs.Stages.{has_positive_last, has_negative_last}
use Rattle.stage_store.specs.Mirror.{IsWholeOr}
use Rattle.stage_store.specs.Reaches.{AreReaches}
use Rattle.stage_store.specs.Sieve.{IsTable, IsBefore, AreSifted}
use Rattle.stage_store.proofs.Sifting.{on_ok_renewed}
use Rattle.stage_store.proofs.sieve.Sieve.renew.Goals as goal

pub sift_anew-requires-clause-reaches : goal.sift_anew-requires-clause-reaches
sift_anew-requires-clause-reaches c = subst (AreReaches c.args.listed.now.rows) (sym c.deref.ensures.value) c.requires.held.upto.reaches_are

pub sift_anew-requires-clause-reach_count : goal.sift_anew-requires-clause-reach_count
sift_anew-requires-clause-reach_count c = omega (arith, ap length c.deref.ensures.value, c.requires.held.reach_count, c.requires.held.within)

pub sift_anew-requires-clause-plus : goal.sift_anew-requires-clause-plus
sift_anew-requires-clause-plus c = subst (λ (n : ℕ). IsTable c.args.system.now.equations c.args.listed.now.rows (IsBefore c.args.listed.now.rows has_positive_last n) n c.args.self.now.plus) (sym (ap length c.deref.ensures.value ∙ c.requires.held.reach_count)) c.requires.held.upto.plus_table

pub sift_anew-requires-clause-minus : goal.sift_anew-requires-clause-minus
sift_anew-requires-clause-minus c = subst (λ (n : ℕ). IsTable c.args.system.now.equations c.args.listed.now.rows (IsBefore c.args.listed.now.rows has_negative_last n) n c.args.self.now.minus) (sym (ap length c.deref.ensures.value ∙ c.requires.held.reach_count)) c.requires.held.upto.minus_table

pub sift_anew-requires-clause-mirror : goal.sift_anew-requires-clause-mirror
sift_anew-requires-clause-mirror c = subst (IsWholeOr c.args.listed.now.rows) (sym c.deref-2.ensures.value) c.requires.mirror

pub returns-clause-held : goal.returns-clause-held
returns-clause-held c =
    on_ok_renewed c.args.system.now.equations c.args.listed.now.rows c.args.norm c.args.self.now (record { rows = c.args.self.now.rows; reaches = c.args.self.now.reaches; mirror = c.args.self.now.mirror; plus = c.args.self.now.plus; minus = c.args.self.now.minus; shelves = c.sift_anew.new.shelves })
    c.sift_anew.result refl refl refl refl refl c.sift_anew.ensures.count (omega (arith, c.sift_anew.ensures.stay.same_closed, c.reopen.ensures.closed))
    (subst (λ (n : ℕ). OnOk c.sift_anew.result (AreSifted c.args.system.now.equations c.args.listed.now.rows n c.sift_anew.new.shelves)) (ap length c.deref.ensures.value ∙ c.requires.held.reach_count) c.sift_anew.ensures.sifted) c.requires.held
