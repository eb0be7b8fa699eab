-- What is put together and what is left of the team are together what all of them were.
use Rattle.std.proofs.Common.{◌≡◌, ◌+◌, true, [], All, vec_len}
use Rattle.lift_core.specs.Times.{total_of}
use Rattle.norm_board.specs.Seen.{view}
use Rattle.worker_gate.specs.Inside.Team.{IsReady, IsEmpty, MayMerge, IsFine, worker_weight, missed_of}
use Rattle.worker_gate.proofs.team.merge.Given as goal

abbrev pub invariant-loop-worker : goal.invariant-loop-worker
invariant-loop-worker l = record {
  ready : IsReady l.board l.all;
  done : (view l.all.pass).done ≡ true;
  weight : worker_weight l.all + total_of worker_weight l.team.items ≡ total_of worker_weight l.fn.team.items;
  missed : missed_of l.all + total_of missed_of l.team.items ≡ total_of missed_of l.fn.team.items;
  rest : All (MayMerge l.board) l.team.items;
  fine : All IsFine l.team.items → All IsFine l.fn.team.items;
  empty : All IsEmpty l.fn.team.items → (l.all.share.blocks ≡ []) × All IsEmpty l.team.items;
}

abbrev pub decreases-loop-worker : goal.decreases-loop-worker
decreases-loop-worker l = vec_len l.team
