-- The norm is that of all entries but the last, and in range.
use Rattle.std.proofs.Common.{arith, ap, sym, ◌∙◌, ◌≡◌, ◌-◌, length, take}
use Rattle.int_vector.specs.Vectors.{norm}
use Rattle.lift_core.specs.Stages.{front}
use Rattle.restart_file.proofs.StageRows.{front_row}
use Rattle.restart_file.proofs.rows.norm_of.Goals as goal

pub unreachable-requires : goal.unreachable-requires
unreachable-requires c =
    let cut : front c.args.z.now ≡ take (length c.args.z.now - 1) c.args.z.now = front_row c.args.z.now (length c.args.z.now - 1) (omega (arith, c.requires.some)) in
    omega (arith, c.in-None.ensures, ap norm cut, c.requires.small)

pub returns : goal.returns
returns c =
    let cut : front c.args.z.now ≡ take (length c.args.z.now - 1) c.args.z.now = front_row c.args.z.now (length c.args.z.now - 1) (omega (arith, c.requires.some)) in
    c.in-Some.ensures.0 ∙ ap norm (sym cut)
