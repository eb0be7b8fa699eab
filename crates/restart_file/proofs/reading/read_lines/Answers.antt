-- One line more is read, or the first fault is found.
use Rattle.std.proofs.Common.{arith, rules, refl, sym, subst, ◌∙◌, ◌≡◌, ◌≢◌, ℕ, []}
use Rattle.restart_file.specs.declared.dues.Due.TheVariants.{LastLine}
use Rattle.restart_file.specs.Reading.{Cursor}
use Rattle.restart_file.specs.Inside.Drafts.{IsTrueSoFar, cursor_of}
use Rattle.restart_file.specs.Inside.Windows.{TellsText}
use Rattle.restart_file.proofs.LineByLine.{handed_lines, none_left, way_end, way_fault, way_on, way_start}
use Rattle.restart_file.proofs.Remainders.{tells_same}
use Rattle.restart_file.proofs.Steps.{sound_start}
use Rattle.restart_file.proofs.reading.read_lines.Goals as goal
use Rattle.restart_file.proofs.reading.read_lines.Goals.{else-loop-turn-test, then-loop-turn-test+then-eq}

pub loop-turn-init : goal.loop-turn-init
loop-turn-init g c = record {
  same = refl;
  later = omega arith;
  sound = subst (λ (x : Cursor). IsTrueSoFar c.args.system.now x) (sym c.empty_draft-draft.ensures.start) (sound_start c.args.system.now);
  widths = c.empty_draft-draft.ensures.widths;
  number = omega arith;
  way = λ text t e. way_start c.args.system.now text c.in_ok-window.window (cursor_of c.empty_draft-draft.result) c.empty_draft-draft.ensures.start (c.in_ok-window.ensures text e);
}

pub returns-in_err-read_line-clause-to : goal.returns-in_err-read_line-clause-to
returns-in_err-read_line-clause-to g c = λ text t e.
    let now : TellsText (g.F.Folder.held c.loop-turn.folder) c.args.name.now text = tells_same (g.F.Folder.held c.args.folder.now) (g.F.Folder.held c.loop-turn.folder) c.args.name.now text c.loop-turn.invariant.same t in
    handed_lines c.args.system.now text c.from_residual-in_err-read_line.result _ c.from_residual-in_err-read_line.ensures.1
    (way_fault c.args.system.now text c.loop-turn.window (cursor_of c.loop-turn.draft) c.loop-turn.l c.loop-turn._turn (c.loop-turn.invariant.way text t e) ℕ c.read_line.new.window (cursor_of c.read_line.new.draft) _ (λ rest left. c.in_err-read_line.ensures.line text rest now left))

pub loop-turn-preserved : goal.loop-turn-preserved
loop-turn-preserved g c = record {
  same = c.read_line.ensures.same ∙ c.loop-turn.invariant.same;
  later = omega (arith, c.loop-turn.invariant.later, c.read_line.ensures.cause.later);
  sound = c.in_ok-read_line.ensures.sound;
  widths = c.read_line.ensures.widths;
  number = omega (arith, c.loop-turn.invariant.number);
  way = λ text t e.
      let now : TellsText (g.F.Folder.held c.loop-turn.folder) c.args.name.now text = tells_same (g.F.Folder.held c.args.folder.now) (g.F.Folder.held c.loop-turn.folder) c.args.name.now text c.loop-turn.invariant.same t in
      way_on c.args.system.now text c.loop-turn.window (cursor_of c.loop-turn.draft) c.loop-turn.l c.loop-turn._turn (c.loop-turn.invariant.way text t e) c.read_line.new.window (cursor_of c.read_line.new.draft) (λ rest left. c.in_ok-read_line.ensures.line text rest now left);
}

pub returns-clause-to : goal.returns-clause-to
returns-clause-to g c = λ text t e.
    let way = c.loop-turn.invariant.way text t e in
    let none : (c.loop-turn.draft.due ≢ LastLine → way.rest ≡ []) =
    elim c.loop-turn-test.branch [
      | else-loop-turn-test w ↦ λ due. none_left way.rest (omega (arith, way.fewer, e, w.loop-turn-test.false))
      | then-loop-turn-test+then-eq w ↦ λ due. (let last : c.loop-turn.draft.due ≡ LastLine = search rules in absurd (due last))
    ]
    in
    way_end c.args.system.now text c.loop-turn.window (cursor_of c.loop-turn.draft) c.loop-turn.l c.loop-turn._turn way c.ended.result (c.ended.ensures.to way.rest (c.remaining.ensures text way.rest way.left) none)
