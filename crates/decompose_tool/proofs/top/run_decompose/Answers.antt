-- The end is that of the outcome.
use Rattle.std.proofs.Common.{sym, subst}
use Rattle.std.specs.Prelude.{IfSome}
use Rattle.decompose_tool.specs.Ends.{NothingLeft}
use Rattle.decompose_tool.specs.Sets.{planned}
use Rattle.decompose_tool.specs.declared.ends.DecEnd.{DecEnd}
use Rattle.decompose_tool.proofs.top.run_decompose.Goals as goal

pub returns-clause-whole : goal.returns-clause-whole
returns-clause-whole g c =
    subst (λ (r : DecEnd). IfSome (g.F.Folder.held c.args.folder.now) (λ files. NothingLeft (planned c.args.words.now files) r)) (sym c.end-end.ensures) c.finish-outcome.ensures.whole
