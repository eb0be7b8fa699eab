-- The file is not there, its digest is wrong, or what its lines say is found.
use Rattle.std.proofs.Common.{◌≡◌, true}
use Rattle.std.specs.Prelude.{Err}
use Rattle.restart_file.specs.declared.ends.RestartEnd.TheVariants.{Bad}
use Rattle.restart_file.specs.declared.ends.RestartFault.TheVariants.{Digest}
use Rattle.restart_file.specs.Reading.{reading_unsealed}
use Rattle.restart_file.specs.Inside.Windows.{TellsText}
use Rattle.restart_file.proofs.LineByLine.{handed_stage, lines_bad, restored, restored_none, stage_restored}
use Rattle.restart_file.proofs.Remainders.{tells_same}
use Rattle.restart_file.proofs.reading.read_restart.Goals as goal

pub returns-in_default-clause-found : goal.returns-in_default-clause-found
returns-in_default-clause-found g c = restored_none c.args.system.now c.args.name.now (g.F.Folder.held c.args.folder.now) c.in_ok-size.field-0 c.in_default.is c.in_ok-size.ensures.size

pub returns-then-not-branch-clause-found : goal.returns-then-not-branch-clause-found
returns-then-not-branch-clause-found g c =
    restored c.args.system.now c.args.name.now (g.F.Folder.held c.args.folder.now) c.in_ok-size.field-0 c.in-Some.size (Err (Bad Digest)) c.in-Some.is c.in_ok-size.ensures.size
    (λ text t e.
    reading_unsealed
    (λ sealed.
    (let now : TellsText (g.F.Folder.held c.size.new.self) c.args.name.now text = tells_same (g.F.Folder.held c.args.folder.now) (g.F.Folder.held c.size.new.self) c.args.name.now text c.size.ensures.same t in
    let f : c.in_ok-is_sealed.field-0 ≡ true = (c.in_ok-is_sealed.ensures.sealed text now e).1 sealed in
    absurd cc)))

pub returns-in_err-draft-clause-found : goal.returns-in_err-draft-clause-found
returns-in_err-draft-clause-found g c =
    restored c.args.system.now c.args.name.now (g.F.Folder.held c.args.folder.now) c.in_ok-size.field-0 c.in-Some.size c.from_residual-in_err-draft.result c.in-Some.is c.in_ok-size.ensures.size
    (λ text t e.
    let now : TellsText (g.F.Folder.held c.size.new.self) c.args.name.now text = tells_same (g.F.Folder.held c.args.folder.now) (g.F.Folder.held c.size.new.self) c.args.name.now text c.size.ensures.same t in
    let later : TellsText (g.F.Folder.held c.is_sealed.new.folder) c.args.name.now text = tells_same (g.F.Folder.held c.size.new.self) (g.F.Folder.held c.is_sealed.new.folder) c.args.name.now text c.is_sealed.ensures.same now in
    let f : c.in_ok-is_sealed.field-0 ≡ true = cc in
    handed_stage c.args.system.now _ c.from_residual-in_err-draft.result _ c.from_residual-in_err-draft.ensures.1 (lines_bad c.args.system.now text _ ((c.in_ok-is_sealed.ensures.sealed text now e).0 f) (c.in_err-draft.ensures.to text later e)))

pub returns-clause-found : goal.returns-clause-found
returns-clause-found g c =
    restored c.args.system.now c.args.name.now (g.F.Folder.held c.args.folder.now) c.in_ok-size.field-0 c.in-Some.size c.stage_of.result c.in-Some.is c.in_ok-size.ensures.size
    (λ text t e.
    let now : TellsText (g.F.Folder.held c.size.new.self) c.args.name.now text = tells_same (g.F.Folder.held c.args.folder.now) (g.F.Folder.held c.size.new.self) c.args.name.now text c.size.ensures.same t in
    let later : TellsText (g.F.Folder.held c.is_sealed.new.folder) c.args.name.now text = tells_same (g.F.Folder.held c.size.new.self) (g.F.Folder.held c.is_sealed.new.folder) c.args.name.now text c.is_sealed.ensures.same now in
    let f : c.in_ok-is_sealed.field-0 ≡ true = cc in
    stage_restored c.args.system.now text c.in_ok-draft.draft c.stage_of.result ((c.in_ok-is_sealed.ensures.sealed text now e).0 f) (c.in_ok-draft.ensures.to text later e) c.stage_of.ensures)
