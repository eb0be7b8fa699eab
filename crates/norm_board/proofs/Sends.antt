-- Which types may cross threads. A struct that holds the type needs the fact on the field's row.
use denote.Ref.{NamedLft}
use denote.Param.Send.{IsSend, IsSync, sendable}
use Rattle.std.proofs.Crossing.{crosses}
use Rattle.atomic_table.proofs.shared.Seat.TheSendSync as seat
use Rattle.atomic_table.proofs.shared.Shared.TheSendSync as shared
use Rattle.atomic_table.proofs.send_lease.SendLease.TheSendSync as lease
use Rattle.stage_store.proofs.stage.Stage.TheSendSync as stage
use Rattle.row_pool.proofs.Pool.TheSendSync as pool
use Rattle.norm_board.proofs.runs.Runs.TheSendSync as runs
use Rattle.norm_board.proofs.scratch.Scratch.TheSendSync as scratch
use Rattle.norm_board.specs.contracts.pass.Pass as pass
use Rattle.norm_board.specs.contracts.share.Share as share
use Rattle.norm_board.specs.contracts.board.Board as board
use Rattle.norm_board.specs.contracts.board.Board.TheInside as inside

pub pass_field_send : IsSend (pass.the_field).row
pass_field_send = search (sendable, crosses, seat.the_send, pool.the_send, runs.the_send) depth 20

pub share_field_send : (a : NamedLft) → IsSend (share.the_field a).row
share_field_send a = search (sendable, crosses, pool.the_send, runs.the_send, scratch.the_send, stage.the_sync) depth 20

inside_sync : (a : NamedLft) → IsSync (inside.the_row a)
inside_sync a = search (sendable, crosses, shared.the_sync, lease.the_sync, pool.the_send, runs.the_send, stage.the_sync) depth 20

pub board_sync : (a : NamedLft) → IsSync (board.the_row a)
board_sync a = search (sendable, inside_sync) depth 20
