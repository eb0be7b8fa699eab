-- A worker may go to another thread, and what all of them look at may be shared.
use Rattle.std.proofs.Common.{rules}
use denote.Param.Send.{sendable}
use Rattle.std.proofs.Crossing.{crosses}
use Rattle.norm_board.proofs.Sends.{board_sync, pass_field_send, share_field_send}
use Rattle.worker_gate.proofs.team.run_all.Goals as goal

pub for_each_mut-requires-send-T : goal.for_each_mut-requires-send-T
for_each_mut-requires-send-T g c κs within = search (sendable, crosses, pass_field_send, share_field_send) depth 20

pub for_each_mut-requires-sync-F : goal.for_each_mut-requires-sync-F
for_each_mut-requires-sync-F g c κs within = search (rules, sendable, crosses, board_sync) depth 20
