use Rattle.std.proofs.Common.{◌≡◌, ◌++◌, take, drop}
use Rattle.stage_store.specs.Classes.{places, sign_test}
use Rattle.stage_store.proofs.rebuilding.class_within.Given as goal

abbrev pub invariant-loop-i : goal.invariant-loop-i
invariant-loop-i l =
    places (sign_test l.side) l.from (drop l.from (take l.to l.listed.rows))
    ≡ l.ids.items ++ places (sign_test l.side) l.i (drop l.i (take l.to l.listed.rows))
