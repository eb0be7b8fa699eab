-- A refusal leaves the file cut, or all files as before where its name found no memory.
use Rattle.std.proofs.Common.{◌≡◌, ◌∙◌, ◌++◌, ap, ◌∷◌, [], refl, sym, subst, inl}
use Rattle.std.proofs.lemmas.Result.{err_from_is_err_and}
use Rattle.mat_files.specs.Printed.{text_of}
use Rattle.solution_files.specs.Outputs.{MayWrite}
use Rattle.tool_top.specs.Names.{file_name}
use Rattle.tool_top.specs.Inside.Writing.{output_of, CutsTo}
use Rattle.tool_top.proofs.Cuts.{lone_cut}
use Rattle.tool_top.proofs.outputs.write_output.Goals as goal

pub returns-in_err-name-clause-refused : goal.returns-in_err-name-clause-refused
returns-in_err-name-clause-refused g c =
    let p = err_from_is_err_and c.from_residual.result c.from_residual.ensures.1 in
    rw (p.1, p.2) (c.args.output.now.part, inl (refl, inl refl))

pub returns-clause-refused : goal.returns-clause-refused
returns-clause-refused g c =
    let named : c.as_str.result.now ≡ file_name c.args.project.now c.args.output.now.part = c.as_str.ensures.value ∙ c.in_ok-name.ensures ∙ ap (λ x. c.args.project.now ++ x) c.ending.ensures in
    subst (CutsTo c.args.project.now (output_of c.args.output.now ∷ []) (g.F.Folder.held c.args.folder.now) (g.F.Folder.held c.write_grid.new.folder)) (sym c.refused_at.ensures)
    (lone_cut c.args.project.now (output_of c.args.output.now) c.in-Err.refused (g.F.Folder.held c.args.folder.now) (g.F.Folder.held c.write_grid.new.folder)
    (subst (λ n. MayWrite n (text_of c.args.output.now.grid) (g.F.Folder.held c.args.folder.now) (g.F.Folder.held c.write_grid.new.folder)) named c.in-Err.ensures.refused))
