-- A row joins the table of its side, and its pairs are sifted; one with last entry 0 is in no pair and joins no table. So
-- the sieve holds one row more.
use Rattle.std.proofs.Common.{◌≡◌, ◌∙◌, ap, sym, refl, true, false}
use Rattle.lift_core.specs.Stages.{has_positive_last, has_negative_last}
use Rattle.stage_store.specs.Classes.{row_at}
use Rattle.stage_store.proofs.Sifting.{sieve_neither, on_ok_above, on_ok_under}
use Rattle.stage_store.proofs.sieve.Sieve.sift_next.Goals as goal

pub returns-clause-upto : goal.returns-clause-upto
returns-clause-upto c =
    let above : has_positive_last (row_at c.args.listed.now.rows c.args.i) ≡ false = ap has_positive_last (sym c.row.ensures.row) ∙ sym c.has_sign.ensures ∙ c.if-has_sign.false in
    let under : has_negative_last (row_at c.args.listed.now.rows c.args.i) ≡ false = ap has_negative_last (sym c.row-2.ensures.row) ∙ sym c.has_sign-2.ensures ∙ c.if-has_sign-2.false in
    sieve_neither c.args.system.now.equations c.args.listed.now.rows c.args.norm c.args.i c.args.self.now c.requires.row c.requires.upto above under

pub returns-then-has_sign-clause-upto : goal.returns-then-has_sign-clause-upto
returns-then-has_sign-clause-upto c =
    let sign : has_positive_last (row_at c.args.listed.now.rows c.args.i) ≡ true = ap has_positive_last (sym c.row.ensures.row) ∙ sym c.has_sign.ensures ∙ c.if-has_sign.true in
    on_ok_above c.args.system.now.equations c.args.listed.now.rows c.args.norm c.args.i c.args.self.now (record { rows = c.args.self.now.rows; reaches = c.args.self.now.reaches; mirror = c.args.self.now.mirror; plus = c.sift_into.new.own; minus = c.args.self.now.minus; shelves = c.sift_into.new.shelves })
    c.requires.row c.requires.upto c.sift_into.ensures.stay c.sift_into.ensures.count refl refl c.sift_into.result sign refl c.sift_into.ensures.sifted c.sift_into.ensures.own

pub returns-then-has_sign-2-clause-upto : goal.returns-then-has_sign-2-clause-upto
returns-then-has_sign-2-clause-upto c =
    let sign : has_negative_last (row_at c.args.listed.now.rows c.args.i) ≡ true = ap has_negative_last (sym c.row-2.ensures.row) ∙ sym c.has_sign-2.ensures ∙ c.if-has_sign-2.true in
    on_ok_under c.args.system.now.equations c.args.listed.now.rows c.args.norm c.args.i c.args.self.now (record { rows = c.args.self.now.rows; reaches = c.args.self.now.reaches; mirror = c.args.self.now.mirror; plus = c.args.self.now.plus; minus = c.sift_into-then-has_sign-2.new.own; shelves = c.sift_into-then-has_sign-2.new.shelves })
    c.requires.row c.requires.upto c.sift_into-then-has_sign-2.ensures.stay c.sift_into-then-has_sign-2.ensures.count refl refl c.sift_into-then-has_sign-2.result sign refl c.sift_into-then-has_sign-2.ensures.sifted c.sift_into-then-has_sign-2.ensures.own
