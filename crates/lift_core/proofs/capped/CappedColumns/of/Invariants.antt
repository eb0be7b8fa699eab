-- The places are found one after another.
use Rattle.std.proofs.Common.{◌≡◌, ◌++◌, ◌≤◌, length, take, drop}
use Rattle.lift_core.specs.Inside.Capped.{capped_from}
use Rattle.lift_core.proofs.capped.CappedColumns.of.Given as goal

-- the places so far and those that are left are all
abbrev pub invariant-loop-place : goal.invariant-loop-place
invariant-loop-place l = record {
  done : take l.count l.places ++ capped_from l.place (drop l.place l.caps) ≡ capped_from 0 l.caps;
  room : length l.places ≡ 129;
  few : l.count ≤ l.place;
}
