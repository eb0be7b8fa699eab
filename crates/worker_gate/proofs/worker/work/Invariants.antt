-- The pass has drawn what its share has and what it has kept, and each turn draws a later block.
use Rattle.std.proofs.Common.{◌≡◌, ◌≤◌, ◌<◌, ◌-◌}
use Rattle.lift_core.specs.Times.{times}
use Rattle.norm_board.specs.Seen.{view}
use Rattle.worker_gate.specs.Work.{IsWorker, KeepsBlocks}
use Rattle.worker_gate.proofs.worker.work.Given as goal

abbrev pub invariant-loop-share : goal.invariant-loop-share
invariant-loop-share g l = record {
  worker : IsWorker l.board l.pass l.share;
  weight : (view l.pass).weight ≡ (view l.fn.pass).weight;
  missed : (view l.fn.pass).missed ≤ (view l.pass).missed;
  gained : KeepsBlocks (view l.fn.pass) (view l.pass);
  last : 0 < l.least → 0 < times (l.least - 1) (view l.pass).drawn;
  fits : l.least ≤ l.board.plan.blocks;
}

abbrev pub decreases-loop-share : goal.decreases-loop-share
decreases-loop-share g l = l.board.plan.blocks - l.least
