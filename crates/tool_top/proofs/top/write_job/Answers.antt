-- With tables nothing is written; else all outputs are, or they are cut.
use Rattle.std.proofs.Common.{◌≡◌, OnOk, IfErr, sym, subst}
use Rattle.std.specs.Option.{option_map}
use Rattle.tool_top.specs.Plan.{project_of}
use Rattle.tool_top.specs.Outputs.{to_write, written_all}
use Rattle.tool_top.specs.Inside.Writing.{CutsTo, outputs_of}
use Rattle.tool_top.proofs.Conclusions.{unwritten}
use Rattle.tool_top.proofs.top.write_job.Goals as goal

pub returns-in-Some-clause-done : goal.returns-in-Some-clause-done
returns-in-Some-clause-done g c =
    subst
    (λ t. g.F.Folder.held c.args.folder.now ≡ option_map (written_all (project_of c.args.job.now)
    (to_write t (outputs_of c.args.outputs.now))) (g.F.Folder.held c.args.folder.now))
    (sym c.in-Some.is) (unwritten (project_of c.args.job.now) (g.F.Folder.held c.args.folder.now))

pub returns-in-None-clause-done : goal.returns-in-None-clause-done
returns-in-None-clause-done g c =
    subst
    (λ t. OnOk c.write_outputs.result (g.F.Folder.held c.write_outputs.new.folder ≡ option_map
    (written_all (project_of c.args.job.now) (to_write t (outputs_of c.args.outputs.now)))
    (g.F.Folder.held c.args.folder.now)))
    (sym c.in-None.is)
    (subst (λ n. OnOk c.write_outputs.result (g.F.Folder.held c.write_outputs.new.folder ≡
    option_map (written_all n (outputs_of c.args.outputs.now)) (g.F.Folder.held
    c.args.folder.now))) c.project_of.ensures c.write_outputs.ensures.done)

pub returns-in-None-clause-refused : goal.returns-in-None-clause-refused
returns-in-None-clause-refused g c =
    subst
    (λ t. IfErr c.write_outputs.result (CutsTo (project_of c.args.job.now) (to_write t (outputs_of
    c.args.outputs.now)) (g.F.Folder.held c.args.folder.now) (g.F.Folder.held
    c.write_outputs.new.folder)))
    (sym c.in-None.is)
    (subst (λ n. IfErr c.write_outputs.result (CutsTo n (outputs_of c.args.outputs.now)
    (g.F.Folder.held c.args.folder.now) (g.F.Folder.held c.write_outputs.new.folder)))
    c.project_of.ensures c.write_outputs.ensures.refused)
