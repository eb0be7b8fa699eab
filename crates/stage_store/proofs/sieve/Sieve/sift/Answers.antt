-- With all rows sifted it is a sieve of the listed rows; after an error the empty sieve is one, since nothing counts as
-- sifted in it.
use Rattle.std.proofs.Common.{ℕ, sym, subst, arith}
use Rattle.stage_store.specs.Sieve.{IsSieveTo}
use Rattle.stage_store.proofs.Sifting.{new_sieve}
use Rattle.stage_store.proofs.sieve.Sieve.sift.Goals as goal

pub returns-in-Ok : goal.returns-in-Ok
returns-in-Ok c =
    let u : IsSieveTo c.args.system.now.equations c.args.listed.now.rows c.args.norm c.len-self.result c.sift_on.new.self =
    subst (λ (n : ℕ). IsSieveTo c.args.system.now.equations c.args.listed.now.rows c.args.norm n c.sift_on.new.self) (sym c.len-self.ensures) c.in-Ok.ensures.upto in
    record {
      held = record {
        within = omega (arith, c.len-self.ensures);
        reach_count = omega (arith, c.in-Ok.ensures.reach_count, c.len-self.ensures);
        upto = record {
          plus_table = u.plus_table;
          minus_table = u.minus_table;
          shelves_are = u.shelves_are;
          closed = u.closed;
          reaches_are = u.reaches_are;
          mirror_is = u.mirror_is;
          sifted = u.sifted;
        };
      };
    }

pub returns-in-Err : goal.returns-in-Err
returns-in-Err c = record { held = new_sieve c.args.system.now.equations c.args.listed.now.rows c.args.norm c.begin.new.self c.begin.ensures }
