-- A row whose entry has the other sign bars every level, and so does one whose entry is at the cap.
use Rattle.std.proofs.Common.{◌≡◌, ◌∙◌, ◌+◌, ◌<◌, ap, refl, sym, rules, arith, length, get_or, SFits, w64, to_z-of_z, None, false}
use Rattle.std.specs.Prelude.{pos, IsTrue}
use Rattle.stage_store.specs.Levels.{IsAgainst, IsOnSide, IsFull}
use Rattle.stage_store.proofs.Levels.{every_level, bars_against, bars_full, on_side}
use Rattle.stage_store.proofs.marks.plain_level.Goals as goal
use Rattle.stage_store.proofs.marks.plain_level.Goals.{then-is_against-via-then-is_against, then-is_against-via-else-is_against+then-is_full}

pub overflow_cast-column : goal.overflow_cast-column
overflow_cast-column c = omega (arith, c.requires.column, c.keeps.ensures.most_width)

pub overflow_add-column : goal.overflow_add-column
overflow_add-column c = omega (arith, c.requires.column, c.keeps.ensures.most_width)

pub returns-then-is_against : goal.returns-then-is_against
returns-then-is_against c =
    let f : SFits w64 (get_or c.args.row.now c.args.column (pos 0)) = search rules in
    let inside : c.args.column + 1 < length c.args.row.now = omega (arith, c.requires.column, c.requires.row) in
    elim c.then-is_against.branch [
      | then-is_against-via-then-is_against w ↦
          let a : IsAgainst c.args.positive (get_or c.args.row.now c.args.column (pos 0)) = simp to_z-of_z at (w.if-is_against.ensures.0 refl) in
          every_level c.args.system.now.equations c.args.listed.now.rows c.args.row.now c.args.column c.args.positive (λ l. bars_against c.args.system.now.equations c.args.listed.now.rows c.args.row.now c.args.column c.args.positive l inside a)
      | then-is_against-via-else-is_against+then-is_full w ↦
          let not_against : IsAgainst c.args.positive (get_or c.args.row.now c.args.column (pos 0)) → IsTrue false = simp to_z-of_z at w.if-is_against.ensures.1 in
          let side : IsOnSide c.args.positive (get_or c.args.row.now c.args.column (pos 0)) = on_side c.args.positive (get_or c.args.row.now c.args.column (pos 0)) (λ a. let e : IsTrue false = not_against a in cc) in
          let full : IsFull w.cap.result (get_or c.args.row.now c.args.column (pos 0)) = simp to_z-of_z at (w.if-is_full.ensures refl) in
          let cap : get_or c.args.system.now.equations.caps c.args.column None ≡ w.cap.result = ap (λ n. get_or c.args.system.now.equations.caps n None) (omega arith) ∙ sym w.cap.ensures in
          every_level c.args.system.now.equations c.args.listed.now.rows c.args.row.now c.args.column c.args.positive
          (λ l. bars_full c.args.system.now.equations c.args.listed.now.rows c.args.row.now c.args.column c.args.positive l inside w.cap.result (omega (arith, c.requires.column, c.keeps.ensures.cap_count)) cap side full)
    ]
