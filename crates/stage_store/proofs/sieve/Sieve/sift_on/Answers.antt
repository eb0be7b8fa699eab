-- With the pairs of the closed norm dropped it is a sieve of the same rows for the norms above.
use Rattle.std.proofs.Common.{◌∙◌, ℕ, refl, sym, subst, subst₂, arith}
use Rattle.stage_store.specs.Mirror.{IsTurnedTo, IsWholeOr}
use Rattle.stage_store.specs.Sieve.{IsSieve, IsSieveTo}
use Rattle.stage_store.specs.declared.sieve.Sieve.{Sieve}
use Rattle.stage_store.proofs.Sifting.{known_mirror, known_whole, same_rows, sieve_mirrored, still_sifted}
use Rattle.stage_store.proofs.sieve.Sieve.sift_on.Goals as goal

pub renew-requires-clause-held : goal.renew-requires-clause-held
renew-requires-clause-held c =
    sieve_mirrored c.args.system.now.equations c.args.listed.now.rows c.args.norm c.args.self.now c.turn_rows.new.self c.turn_rows.ensures.same
    (known_mirror c.args.listed.now.rows c.args.self.now.rows c.turn_rows.new.self.mirror.items c.in_ok-known.known c.in_ok-known.ensures.turned c.in_ok-known.ensures.mirror) c.requires.held

pub renew-requires-clause-mirror : goal.renew-requires-clause-mirror
renew-requires-clause-mirror c = known_whole c.args.listed.now.rows c.args.self.now.rows c.turn_rows.new.self.mirror.items c.in_ok-known.known c.in_ok-known.ensures.turned c.in_ok-known.ensures.mirror

pub sift_rows-requires-clause-turned : goal.sift_rows-requires-clause-turned
sift_rows-requires-clause-turned c = λ k.
    subst₂ (λ n m. IsTurnedTo c.args.listed.now.rows n m.items) (sym (c.renew.ensures.same.0 ∙ c.turn_rows.ensures.same.0)) (sym c.renew.ensures.same.1) (c.in_ok-known.ensures.turned k)

pub sift_rows-requires-clause-mirror : goal.sift_rows-requires-clause-mirror
sift_rows-requires-clause-mirror c =
    subst (λ m. IsWholeOr c.args.listed.now.rows m.items) (sym c.renew.ensures.same.1)
    (known_whole c.args.listed.now.rows c.args.self.now.rows c.turn_rows.new.self.mirror.items c.in_ok-known.known c.in_ok-known.ensures.turned c.in_ok-known.ensures.mirror)

pub close-requires-clause-above : goal.close-requires-clause-above
close-requires-clause-above c = c.in_ok-renew.ensures.held.upto.closed

pub sift_rows-requires-clause-reach_count : goal.sift_rows-requires-clause-reach_count
sift_rows-requires-clause-reach_count c = c.in_ok-renew.ensures.held.reach_count

pub sift_rows-requires-clause-within : goal.sift_rows-requires-clause-within
sift_rows-requires-clause-within c = c.in_ok-renew.ensures.held.within

pub sift_rows-requires-clause-upto : goal.sift_rows-requires-clause-upto
sift_rows-requires-clause-upto c =
    let old : Sieve = c.renew.new.self in
    let held : IsSieve c.args.system.now.equations c.args.listed.now.rows c.args.norm c.renew.new.self = c.in_ok-renew.ensures.held in
    (same_rows c.args.system.now.equations c.args.listed.now.rows c.args.norm c.renew.new.self
    (record { rows = old.rows; reaches = old.reaches; mirror = old.mirror; plus = old.plus; minus = old.minus; shelves = c.close.new.self }) refl refl refl refl refl c.close.ensures.shelves (omega (arith, c.close.ensures.closed))
    (still_sifted c.args.system.now.equations c.args.listed.now.rows old.rows old.shelves c.close.new.self c.close.ensures.kept held.upto.sifted) held).upto

-- where no row was listed since, those that were sifted are all
pub returns-then-self-len-clause-upto : goal.returns-then-self-len-clause-upto
returns-then-self-len-clause-upto c =
    let old : Sieve = c.renew.new.self in
    let held : IsSieve c.args.system.now.equations c.args.listed.now.rows c.args.norm c.renew.new.self = c.in_ok-renew.ensures.held in
    subst (λ (n : ℕ). IsSieveTo c.args.system.now.equations c.args.listed.now.rows c.args.norm n (record { rows = old.rows; reaches = old.reaches; mirror = old.mirror; plus = old.plus; minus = old.minus; shelves = c.close.new.self }))
    (c.if-self-len.true ∙ c.len-2.ensures)
    (same_rows c.args.system.now.equations c.args.listed.now.rows c.args.norm c.renew.new.self
    (record { rows = old.rows; reaches = old.reaches; mirror = old.mirror; plus = old.plus; minus = old.minus; shelves = c.close.new.self }) refl refl refl refl refl c.close.ensures.shelves (omega (arith, c.close.ensures.closed))
    (still_sifted c.args.system.now.equations c.args.listed.now.rows old.rows old.shelves c.close.new.self c.close.ensures.kept held.upto.sifted) held).upto
