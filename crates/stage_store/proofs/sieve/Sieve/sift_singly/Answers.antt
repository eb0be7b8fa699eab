use Rattle.std.proofs.Common.{◌≡◌, ℕ, length, subst, arith}
use Rattle.stage_store.specs.Sieve.{IsSieveTo}
use Rattle.stage_store.proofs.sieve.Sieve.sift_singly.Goals as goal

pub returns-clause-upto : goal.returns-clause-upto
returns-clause-upto c =
    let all : c.loop-i.i ≡ length c.args.listed.now.rows = omega (arith, c.loop-i-test.false, c.len-i-end.ensures, c.loop-i.auto, c.requires.within) in
    subst (λ (n : ℕ). IsSieveTo c.args.system.now.equations c.args.listed.now.rows c.args.norm n c.loop-i.self) all c.loop-i.invariant.upto
