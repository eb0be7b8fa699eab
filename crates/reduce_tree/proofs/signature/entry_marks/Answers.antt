use Rattle.std.proofs.Common.{◌≡◌, ap, sym, ◌∙◌, rules}
use Rattle.std.specs.Prelude.{pos}
use Rattle.reduce_tree.specs.Signatures.{entry_marks}
use Rattle.reduce_tree.proofs.Signatures.{no_marks}
use Rattle.reduce_tree.proofs.signature.entry_marks.Goals as goal

pub returns-then-entry-eq0 : goal.returns-then-entry-eq0
returns-then-entry-eq0 c =
    let e : c.args.entry ≡ pos 0 = search rules in
    sym (ap (λ x. entry_marks c.args.levels c.args.column x) e ∙ no_marks c.args.levels c.args.column)
