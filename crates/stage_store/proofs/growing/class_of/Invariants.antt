use Rattle.std.proofs.Common.{◌≡◌, ◌+◌, ◌++◌, drop}
use Rattle.stage_store.specs.Classes.{places, sign_test}
use Rattle.stage_store.proofs.growing.class_of.Given as goal

abbrev pub invariant-loop-i : goal.invariant-loop-i
invariant-loop-i l = places (sign_test l.side) l.base l.rows.rows ≡ l.ids.items ++ places (sign_test l.side) (l.base + l.i) (drop l.i l.rows.rows)
