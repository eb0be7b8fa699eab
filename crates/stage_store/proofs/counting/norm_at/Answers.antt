-- The norm of a stage row is in range, so working it out never fails.
use Rattle.std.proofs.Common.{◌≡◌, ◌+◌, ◌-◌, ◌≤◌, length, take, [], ap, arith}
use Rattle.int_vector.specs.Vectors.{norm}
use Rattle.lift_core.specs.Stages.{stage_norm}
use Rattle.lift_core.proofs.Stages.{front-take}
use Rattle.stage_store.proofs.Classes.{each_at}
use Rattle.stage_store.proofs.counting.norm_at.Goals as goal

pub unreachable-requires : goal.unreachable-requires
unreachable-requires c =
    let row = c.row-row.result.now in
    let n : length row ≡ (length row - 1) + 1 =
    omega (arith, c.row-row.ensures.width, c.requires.width) in
    let e : stage_norm row ≡ norm (take (length row - 1) row) =
    ap norm (front-take row (length row - 1) n) in
    omega (
      arith,
      c.in-None.ensures,
      e,
      ap stage_norm c.row-row.ensures.row,
      each_at (λ z. stage_norm z ≤ 9223372036854775807) c.args.listed.now.rows c.args.place []
          c.requires.small c.requires.place,
    )
