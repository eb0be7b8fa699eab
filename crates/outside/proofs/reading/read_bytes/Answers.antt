-- What was read is a front of the file, and each turn makes it longer or finds the end. It is the whole file where the
-- length that was told is the file's: whether the end is found, the length is reached, or the turns are used up.
use Rattle.std.proofs.Common.{◌≡◌, ◌≤◌, inl, inr, length, ap, arith, ◌∙◌}
use Rattle.outside.proofs.ReadPieces.{front_step, front_whole, front_end, within_piece}
use Rattle.outside.proofs.reading.read_bytes.Goals as goal
use Rattle.outside.proofs.reading.read_bytes.Goals.{else-loop-turn-test, then-loop-turn-test+then-rest-eq0, then-loop-turn-test+else-rest-eq0+in_ok-read_more+then-not-branch}

pub loop-turn-preserved : goal.loop-turn-preserved
loop-turn-preserved g c = record {
  same = c.read_more.ensures.same ∙ c.loop-turn.invariant.same;
  later = omega (arith, c.loop-turn.invariant.later, c.read_more.ensures.cause.later);
  within = within_piece c.args.len (length c.loop-turn.bytes.items) (length c.read_more.new.bytes.items) c.min-room.result c.loop-turn.piece
      (omega (arith, c.min-room.ensures, c.saturating_sub-rest.ensures, ap length c.as_slice.ensures.value)) c.loop-turn.invariant.within c.in_ok-read_more.ensures.within;
  front =
      front_step (g.F.Folder.held c.args.folder.now) (g.F.Folder.held c.loop-turn.folder) c.args.name.now c.loop-turn.bytes.items c.read_more.new.bytes.items c.loop-turn._turn
      c.in_ok-read_more.field-0 c.loop-turn.invariant.same c.if-not-branch.false c.loop-turn.invariant.front c.in_ok-read_more.ensures.more;
}

pub returns-clause-bytes : goal.returns-clause-bytes
returns-clause-bytes g c =
    elim c.loop-turn-test.branch [
      | else-loop-turn-test w ↦ rw w.bytes-is
          (front_whole (g.F.Folder.held c.args.folder.now) c.args.name.now c.loop-turn.bytes.items c.loop-turn._turn c.args.len (inl w.loop-turn-test.false) c.loop-turn.invariant.front)
      | then-loop-turn-test+then-rest-eq0 w ↦
          let read : length w.as_slice.result.now ≡ length c.loop-turn.bytes.items = ap length w.as_slice.ensures.value in
          let all : c.args.len ≤ length c.loop-turn.bytes.items = omega (arith, w.if-rest-eq0.true, w.saturating_sub-rest.ensures, read) in
          rw w.bytes-is (front_whole (g.F.Folder.held c.args.folder.now) c.args.name.now c.loop-turn.bytes.items c.loop-turn._turn c.args.len (inr all) c.loop-turn.invariant.front)
      | then-loop-turn-test+else-rest-eq0+in_ok-read_more+then-not-branch w ↦ rw w.bytes-is
          (front_end (g.F.Folder.held c.args.folder.now) (g.F.Folder.held c.loop-turn.folder) c.args.name.now c.loop-turn.bytes.items w.read_more.new.bytes.items c.loop-turn._turn c.args.len
          w.in_ok-read_more.field-0 c.loop-turn.invariant.same w.if-not-branch.true c.loop-turn.invariant.front w.in_ok-read_more.ensures.more)
    ]

pub returns-clause-within : goal.returns-clause-within
returns-clause-within g c =
    elim c.loop-turn-test.branch [
      | else-loop-turn-test w ↦ rw w.bytes-is c.loop-turn.invariant.within
      | then-loop-turn-test+then-rest-eq0 w ↦ rw w.bytes-is c.loop-turn.invariant.within
      | then-loop-turn-test+else-rest-eq0+in_ok-read_more+then-not-branch w ↦ rw w.bytes-is
          (within_piece c.args.len (length c.loop-turn.bytes.items) (length w.read_more.new.bytes.items) w.min-room.result c.loop-turn.piece
          (omega (arith, w.min-room.ensures, w.saturating_sub-rest.ensures, ap length w.as_slice.ensures.value)) c.loop-turn.invariant.within w.in_ok-read_more.ensures.within)
    ]
