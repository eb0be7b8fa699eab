-- The workers so far are ready and empty, and the pass has the weight that is left.
use Rattle.std.proofs.Common.{◌≡◌, ◌≤◌, ◌+◌, false, [], All, vec_len, vec_capacity}
use Rattle.lift_core.specs.Times.{total_of}
use Rattle.norm_board.specs.Seen.{view, Belongs}
use Rattle.worker_gate.specs.Inside.Team.{IsReady, IsEmpty, worker_weight, missed_of}
use Rattle.worker_gate.proofs.team.recruit_all.Given as goal

abbrev pub invariant-loop-i : goal.invariant-loop-i
invariant-loop-i l = record {
  own : Belongs l.board l.pass;
  free : (view l.pass).holding ≡ false;
  drawn : (view l.pass).drawn ≡ [];
  weight : (view l.pass).weight + l.i ≡ l.count + 1;
  missed : (view l.pass).missed ≡ (view l.fn.pass).missed;
  whole : l.count ≡ (view l.fn.pass).weight;
  room : l.count ≤ vec_capacity l.team;
  count : vec_len l.team + 1 ≡ l.i;
  ready : All (IsReady l.board) l.team.items;
  empty : All IsEmpty l.team.items;
  weights : total_of worker_weight l.team.items + 1 ≡ l.i;
  missing : total_of missed_of l.team.items ≡ 0;
}
