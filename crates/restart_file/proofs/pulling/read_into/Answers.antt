-- The bytes that are read are those of the file from this place on.
use Rattle.std.proofs.Common.{arith, ap, sym, subst, length, ℕ, List}
use Rattle.std.specs.Prelude.{IfOk}
use Rattle.outside.specs.Files.{ReadsFrom}
use Rattle.restart_file.proofs.Remainders.{given_back, tells_read}
use Rattle.restart_file.proofs.pulling.read_into.Goals as goal

pub returns-clause-bytes : goal.returns-clause-bytes
returns-clause-bytes g c = λ text t.
    subst (λ (xs : List ℕ). IfOk c.read.result (λ n. ReadsFrom text c.args.at n xs))
    (sym (given_back c.read.new.buf c.args.storage.now.items _ (omega (arith, c.read.auto.buf, ap length c.as_mut_slice.ensures.value)) (omega (arith, c.as_mut_slice.ensures.len, ap length c.as_mut_slice.ensures.value))))
    (tells_read (g.F.Folder.held c.args.folder.now) c.args.name.now text c.args.at c.read.result c.read.new.buf t c.read.ensures.bytes)
