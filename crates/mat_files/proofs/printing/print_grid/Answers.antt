use Rattle.mat_files.proofs.ReadBack.{printed-spells, printed-reads}
use Rattle.mat_files.proofs.printing.print_grid.Goals as goal

pub returns-clause-spelled : goal.returns-clause-spelled
returns-clause-spelled c =
    let m = c.print_matrix.ensures in printed-spells _ c.print_matrix.result c.args.grid.now m.rows m.cols m.kept m.text

pub returns-clause-reads_back : goal.returns-clause-reads_back
returns-clause-reads_back c =
    let m = c.print_matrix.ensures in printed-reads _ c.print_matrix.result c.args.grid.now m.rows m.cols m.kept m.text
