-- One run more is added.
use Rattle.std.proofs.Common.{arith}
use Rattle.norm_board.specs.Inside.NumberRuns.{numbers_of}
use Rattle.norm_board.proofs.NumberRuns.{numbers_added}
use Rattle.norm_board.proofs.runs.add_runs.Goals as goal

pub loop-run-preserved : goal.loop-run-preserved
loop-run-preserved c =
    let v = c.loop-run.invariant in
    let e = c.add_run.ensures in
    let capacity = e.capacity in
    let len = e.len in
    let before = v.len in
    record {
      numbers = numbers_added (numbers_of c.args.runs.now.items) _ (numbers_of c.loop-run.runs.items) c.args.more.now c.loop-run.run-index (record { first = 0; count = 0 }) c.loop-run-test.true v.numbers e.numbers;
      low = e.low;
      len = omega arith;
      capacity = omega (arith, capacity, v.capacity);
    }
