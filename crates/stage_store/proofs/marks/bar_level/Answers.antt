-- A row whose entry has the other sign bars every level; else it bars the levels from the least at which a listed row is
-- near it.
use Rattle.std.proofs.Common.{◌+◌, ◌<◌, refl, rules, arith, length, get_or, SFits, w64, to_z-of_z}
use Rattle.std.specs.Prelude.{pos}
use Rattle.stage_store.specs.Levels.{IsAgainst}
use Rattle.stage_store.proofs.Levels.{every_level, bars_against, level_near}
use Rattle.stage_store.proofs.marks.bar_level.Goals as goal

pub overflow_cast-column : goal.overflow_cast-column
overflow_cast-column c = omega (arith, c.requires.column, c.keeps.ensures.most_width)

pub overflow_add-column : goal.overflow_add-column
overflow_add-column c = omega (arith, c.requires.column, c.keeps.ensures.most_width)

pub returns-then-is_against-clause-bars : goal.returns-then-is_against-clause-bars
returns-then-is_against-clause-bars c =
    let f : SFits w64 (get_or c.args.row.now c.args.column (pos 0)) = search rules in
    let inside : c.args.column + 1 < length c.args.row.now = omega (arith, c.requires.column, c.requires.row) in
    let a : IsAgainst c.args.positive (get_or c.args.row.now c.args.column (pos 0)) = simp to_z-of_z at (c.if-is_against.ensures.0 refl) in
    every_level c.args.system.now.equations c.args.listed.now.rows c.args.row.now c.args.column c.args.positive (λ l. bars_against c.args.system.now.equations c.args.listed.now.rows c.args.row.now c.args.column c.args.positive l inside a)

pub returns-clause-bars : goal.returns-clause-bars
returns-clause-bars c =
    let inside : c.args.column + 1 < length c.args.row.now = omega (arith, c.requires.column, c.requires.row) in
    level_near c.args.system.now.equations c.args.listed.now.rows c.args.row.now c.args.column c.args.positive c.near_level.result inside c.near_level.ensures.near
