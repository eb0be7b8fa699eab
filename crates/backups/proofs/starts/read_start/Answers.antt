use Rattle.backups.proofs.Looking.{found_both}
use Rattle.backups.proofs.starts.read_start.Goals as goal

pub returns-clause-found : goal.returns-clause-found
returns-clause-found g c =
    found_both c.args.system.now (g.F.Folder.held c.args.folder.now) (g.F.Folder.held
    c.look_into.new.folder) c.args.first.now c.args.second.now c.in_ok-one.one c.in_ok-two.two
    c.choose.result
    c.look_into.ensures.same c.in_ok-one.ensures.found c.in_ok-two.ensures.found c.choose.ensures.finds
