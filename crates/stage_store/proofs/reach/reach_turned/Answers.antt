-- The row is the negative of the one at its mirrored place, and its last entry is not 0: so the other's reach is its own.
use Rattle.std.proofs.Common.{◌≡◌, ◌∙◌, ◌-◌, length, get_or, ap, sym, arith}
use Rattle.std.specs.Prelude.{pos}
use Rattle.std.proofs.lemmas.Int.{ints}
use Rattle.lift_core.specs.Stages.{last}
use Rattle.lift_core.proofs.Stages.{last-get_or}
use Rattle.stage_store.specs.Classes.{row_at}
use Rattle.stage_store.specs.Mirror.{place_in}
use Rattle.stage_store.proofs.Negatives.{reach_at_mirror}
use Rattle.stage_store.proofs.reach.reach_turned.Goals as goal

pub returns-then-other-reaches : goal.returns-then-other-reaches
returns-then-other-reaches c =
    let at : get_or c.row-row.result.now (length c.row-row.result.now - 1) (pos 0) ≡ last (row_at c.args.listed.now.rows c.args.i) =
    sym (last-get_or c.row-row.result.now (length c.row-row.result.now - 1) (pos 0) (omega (arith, c.row-row.ensures.width, c.requires.some))) ∙ ap last c.row-row.ensures.row in
    let some : last (row_at c.args.listed.now.rows c.args.i) ≡ pos 0 → ⊥ = λ e. omega (arith, ints, c.if-row-eq0.false, at, e) in
    record {
      reach = reach_at_mirror c.args.listed.now.rows c.args.mirror.now c.args.i _ (c.requires.mirror (omega (arith, c.if-i-mirror.false))) c.requires.row some
          (c.requires.reaches (place_in c.args.mirror.now c.args.i) c.if-other-reaches.true);
    }
