-- The line of the counts begins the text, and the rows end it or a refusal cuts it.
use Rattle.std.proofs.Common.{rules, ap, ◌∙◌, pos}
use Rattle.std.proofs.lemmas.Result.{err_from_is_err_and}
use Rattle.mat_files.specs.Printed.{text_of}
use Rattle.solution_files.proofs.Writing.{head_line, head_written, head_refused}
use Rattle.solution_files.proofs.output.write_grid.Goals as goal

pub returns-in_err-append_line-clause-refused : goal.returns-in_err-append_line-clause-refused
returns-in_err-append_line-clause-refused g c =
    let p = err_from_is_err_and c.from_residual-in_err-append_line.result c.from_residual-in_err-append_line.ensures.1 in
    rw p.1
    (head_refused c.args.name.now _ c.args.grid.now (g.F.Folder.held c.args.folder.now) (g.F.Folder.held c.begin.new.self) (g.F.Folder.held c.append_line.new.folder) c.in_ok-begin.ensures.done
    (head_line c.args.grid.now.rows c.args.grid.now.cols c.from.result c.from-2.result (c.from.ensures ∙ ap (λ m. pos m.rows) c.grid.view_is) (c.from-2.ensures ∙ ap (λ m. pos m.cols) c.grid.view_is) (search rules) (search rules))
    c.in_err-append_line.ensures.refused)

pub returns-clause-done : goal.returns-clause-done
returns-clause-done g c =
    c.append_rows.ensures.done (text_of c.args.grid.now) (g.F.Folder.held c.args.folder.now)
    (head_written c.args.name.now _ c.args.grid.now (g.F.Folder.held c.args.folder.now) (g.F.Folder.held c.begin.new.self) (g.F.Folder.held c.append_line.new.folder) c.in_ok-begin.ensures.done
    (head_line c.args.grid.now.rows c.args.grid.now.cols c.from.result c.from-2.result (c.from.ensures ∙ ap (λ m. pos m.rows) c.grid.view_is) (c.from-2.ensures ∙ ap (λ m. pos m.cols) c.grid.view_is) (search rules) (search rules))
    c.in_ok-append_line.ensures.done)

pub returns-clause-refused : goal.returns-clause-refused
returns-clause-refused g c =
    c.append_rows.ensures.refused (text_of c.args.grid.now) (g.F.Folder.held c.args.folder.now)
    (head_written c.args.name.now _ c.args.grid.now (g.F.Folder.held c.args.folder.now) (g.F.Folder.held c.begin.new.self) (g.F.Folder.held c.append_line.new.folder) c.in_ok-begin.ensures.done
    (head_line c.args.grid.now.rows c.args.grid.now.cols c.from.result c.from-2.result (c.from.ensures ∙ ap (λ m. pos m.rows) c.grid.view_is) (c.from-2.ensures ∙ ap (λ m. pos m.cols) c.grid.view_is) (search rules) (search rules))
    c.in_ok-append_line.ensures.done)
