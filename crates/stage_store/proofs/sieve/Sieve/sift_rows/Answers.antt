-- Finding reaches changes nothing else, so the rows that were sifted still are.
use Rattle.std.proofs.Common.{refl, subst, subst₂, sym}
use Rattle.stage_store.specs.Mirror.{IsMirror, IsTurnedTo}
use Rattle.stage_store.proofs.Sifting.{sieve_as}
use Rattle.stage_store.proofs.sieve.Sieve.sift_rows.Goals as goal

pub sift_couples-requires-clause-turned : goal.sift_couples-requires-clause-turned
sift_couples-requires-clause-turned c =
    subst₂ (λ n m. IsTurnedTo c.args.listed.now.rows n m.items) (sym c.find_reaches.ensures.same.0) (sym c.find_reaches.ensures.same.1) (c.requires.turned c.if-known.true)

pub sift_couples-requires-clause-upto : goal.sift_couples-requires-clause-upto
sift_couples-requires-clause-upto c =
    sieve_as c.args.system.now.equations c.args.listed.now.rows c.args.norm c.args.self.now c.find_reaches.new.self c.find_reaches.new.self c.find_reaches.ensures.same (refl, refl, refl, refl, refl) c.in_ok-find_reaches.ensures.reaches
    (subst (λ m. IsMirror c.args.listed.now.rows m.items) (sym c.find_reaches.ensures.same.1) c.requires.upto.mirror_is) c.requires.upto

pub sift_singly-requires-clause-upto : goal.sift_singly-requires-clause-upto
sift_singly-requires-clause-upto c =
    sieve_as c.args.system.now.equations c.args.listed.now.rows c.args.norm c.args.self.now c.find_reaches.new.self c.find_reaches.new.self c.find_reaches.ensures.same (refl, refl, refl, refl, refl) c.in_ok-find_reaches.ensures.reaches
    (subst (λ m. IsMirror c.args.listed.now.rows m.items) (sym c.find_reaches.ensures.same.1) c.requires.upto.mirror_is) c.requires.upto
