-- A read of no bytes tells that the file ends here; any other appends the bytes of the file that come next.
use Rattle.std.proofs.Common.{◌≡◌, ◌≢◌, ◌++◌, length, take, IfSome, ap}
use Rattle.outside.specs.Files.{bytes_of, ReadsFrom}
use Rattle.outside.proofs.ReadPieces.{reads_more}
use Rattle.outside.proofs.reading.read_more.Goals as goal

pub returns-clause-more : goal.returns-clause-more
returns-clause-more g c =
    let here : length c.as_slice.result.now ≡ length c.args.bytes.now.items = ap length c.as_slice.ensures.value in
    let some : c.in_ok-count.count ≢ 0 = c.if-count-eq0.false in
    let is : c.extend_from_slice.new.self.items ≡ c.args.bytes.now.items ++ take c.in_ok-count.count c.read.new.buf = c.in_ok-extend_from_slice.ensures.items in
    let from : IfSome (g.F.Folder.held c.args.folder.now) (λ files. ReadsFrom (bytes_of files c.args.name.now) (length c.as_slice.result.now) c.in_ok-count.count c.read.new.buf) = c.in_ok-count.ensures.bytes in
    reads_more (g.F.Folder.held c.args.folder.now) c.args.name.now (length c.as_slice.result.now) c.in_ok-count.count c.read.new.buf c.args.bytes.now.items c.extend_from_slice.new.self.items here some is from
