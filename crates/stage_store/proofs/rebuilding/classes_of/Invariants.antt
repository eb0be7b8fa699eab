use Rattle.std.proofs.Common.{◌-◌, length}
use Rattle.stage_store.specs.Classes.{sign_test}
use Rattle.stage_store.proofs.ClassesByNorm.{AreClassesBefore}
use Rattle.stage_store.proofs.rebuilding.classes_of.Given as goal

abbrev pub invariant-loop-from : goal.invariant-loop-from
invariant-loop-from l = AreClassesBefore l.listed.rows (sign_test l.side) l.from l.classes.items

abbrev pub decreases-loop-from : goal.decreases-loop-from
decreases-loop-from l = length l.listed.rows - l.from
