use Rattle.std.proofs.Common.{refl}
use Rattle.restart_file.proofs.Counted.{class_counted}
use Rattle.restart_file.proofs.classes.add_class.Goals as goal

pub returns : goal.returns
returns c = class_counted c.args.counts.now _ c.class_of.result c.args.row.now c.class_of.ensures.class refl
