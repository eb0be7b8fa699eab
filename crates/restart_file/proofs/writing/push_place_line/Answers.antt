use Rattle.std.proofs.Common.{rules}
use Rattle.restart_file.proofs.Spacing.{behind_three}
use Rattle.restart_file.proofs.writing.push_place_line.Goals as goal

pub returns-in_default : goal.returns-in_default
returns-in_default c = rw (behind_three _ _ _ _ c.args.i (search rules)) c.push_listed_line.ensures
