-- One piece more is hashed.
use Rattle.std.proofs.Common.{arith, ◌∙◌, ◌≡◌, ◌-◌, ◌+◌, take, length}
use Rattle.restart_file.specs.Inside.Windows.{IsHashed, TellsText}
use Rattle.restart_file.proofs.Remainders.{tells_same}
use Rattle.restart_file.proofs.Seals.{all_hashed, hashed_to}
use Rattle.restart_file.proofs.sealing.digest_of.Goals as goal

pub returns-then-count-eq0-clause-digest : goal.returns-then-count-eq0-clause-digest
returns-then-count-eq0-clause-digest g c = λ text t l short.
    let now : TellsText (g.F.Folder.held c.loop-turn.folder) c.args.name.now text = tells_same (g.F.Folder.held c.args.folder.now) (g.F.Folder.held c.loop-turn.folder) c.args.name.now text c.loop-turn.invariant.same t in
    let more = c.in_ok-count.ensures.hashed text (c.args.len - c.loop-turn.left) now (c.loop-turn.invariant.hashed text t l short) in
    let all : (c.args.len - c.loop-turn.left) + c.in_ok-count.count ≡ c.args.len = all_hashed c.args.len c.loop-turn.left c.in_ok-count.count (length text) c.loop-turn.invariant.inside short c.if-count-eq0.true (more.1 c.if-count-eq0.true) in
    let h : IsHashed text c.hash_piece.new.window c.hash_piece.new.hasher c.args.len = hashed_to text c.hash_piece.new.window c.hash_piece.new.hasher ((c.args.len - c.loop-turn.left) + c.in_ok-count.count) c.args.len all more.0 in
    (c.finalize.ensures (take c.args.len text) h.hashed, h.left)

pub loop-turn-preserved : goal.loop-turn-preserved
loop-turn-preserved g c = record {
  same = c.hash_piece.ensures.same ∙ c.loop-turn.invariant.same;
  later = omega (arith, c.loop-turn.invariant.later, c.hash_piece.ensures.cause.later);
  inside = omega (arith, c.loop-turn.invariant.inside);
  turns = omega (arith, c.loop-turn.invariant.turns, c.in_ok-count.ensures.within, c.if-count-eq0.false);
  hashed = λ text t l short.
      let now : TellsText (g.F.Folder.held c.loop-turn.folder) c.args.name.now text = tells_same (g.F.Folder.held c.args.folder.now) (g.F.Folder.held c.loop-turn.folder) c.args.name.now text c.loop-turn.invariant.same t in
      let more = c.in_ok-count.ensures.hashed text (c.args.len - c.loop-turn.left) now (c.loop-turn.invariant.hashed text t l short) in
      hashed_to text c.hash_piece.new.window c.hash_piece.new.hasher ((c.args.len - c.loop-turn.left) + c.in_ok-count.count) (c.args.len - (c.loop-turn.left - c.in_ok-count.count)) (omega (arith, c.loop-turn.invariant.inside, c.in_ok-count.ensures.within)) more.0;
}

pub returns-clause-digest : goal.returns-clause-digest
returns-clause-digest g c = λ text t l short.
    let h : IsHashed text c.loop-turn.window c.loop-turn.hasher c.args.len = hashed_to text c.loop-turn.window c.loop-turn.hasher (c.args.len - c.loop-turn.left) c.args.len (omega (arith, c.loop-turn.invariant.turns, c.loop-turn-test.false)) (c.loop-turn.invariant.hashed text t l short) in
    (c.finalize-2.ensures (take c.args.len text) h.hashed, h.left)
