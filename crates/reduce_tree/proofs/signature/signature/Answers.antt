-- The signature is the marks of the columns so far with those of the columns that are left.
use Rattle.std.proofs.Common.{◌≡◌, ◌∙◌, ap, sym, ◌+◌, drop, rules, get_or, SFits, w64, to_z-of_z}
use Rattle.std.specs.Prelude.{bit_or, pos}
use Rattle.reduce_tree.specs.Signatures.{entry_marks, signature_from}
use Rattle.reduce_tree.proofs.Signatures.{signature_more, signature_ended}
use Rattle.reduce_tree.proofs.signature.signature.Goals as goal

pub loop-column-preserved : goal.loop-column-preserved
loop-column-preserved c =
    let f : SFits w64 (get_or c.args.row.now c.loop-column.column (pos 0)) = search rules in
    let e : c.entry_marks-signature.result ≡ entry_marks c.args.levels c.loop-column.column (get_or c.args.row.now c.loop-column.column (pos 0)) = simp to_z-of_z at c.entry_marks-signature.ensures in
    signature_more c.args.levels c.loop-column.column c.loop-column.signature c.args.row.now c.loop-column.invariant c.loop-column-test.true
    ∙ ap (λ n. bit_or (bit_or c.loop-column.signature n) (signature_from c.args.levels (c.loop-column.column + 1) (drop (c.loop-column.column + 1) c.args.row.now))) (sym e)

pub returns : goal.returns
returns c = signature_ended c.args.levels c.loop-column.column c.loop-column.signature c.args.row.now c.loop-column.invariant c.loop-column-test.false
