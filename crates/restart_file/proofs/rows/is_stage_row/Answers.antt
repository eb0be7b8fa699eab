-- Each test is a part of what a stage's vector is, and together they are all of it.
use Rattle.std.proofs.Common.{◌≡◌, ◌∙◌, sym, true, get_or, rules, SFits, w64, to_z-of_z}
use Rattle.std.specs.Prelude.{pos}
use Rattle.restart_file.proofs.StageRows.{makes_row, row_norm, row_obeys, row_product, row_solves}
use Rattle.restart_file.proofs.rows.is_stage_row.Goals as goal

pub returns-then-not-has_norm : goal.returns-then-not-has_norm
returns-then-not-has_norm c = (
  λ t. cc,
  λ h. (let e : c.has_norm.result ≡ true = c.has_norm.ensures.1 (row_norm c.args.system.now.equations c.args.k c.args.z.now c.width-width.result c.width-width.ensures.width c.requires.width h) in cc),
)

pub returns-then-not-obeys : goal.returns-then-not-obeys
returns-then-not-obeys c = (
  λ t. cc,
  λ h. (let e : c.obeys.result ≡ true = c.obeys.ensures.1 (row_obeys c.args.system.now.equations c.args.k c.args.z.now c.width-width.result c.width-width.ensures.width c.requires.width h) in cc),
)

pub returns-then-not-solves : goal.returns-then-not-solves
returns-then-not-solves c = (
  λ t. cc,
  λ h. (let e : c.solves.result ≡ true = c.solves.ensures.1 (row_solves c.args.system.now.equations c.args.k c.args.z.now c.width-width.result c.width-width.ensures.width c.requires.width h) in cc),
)

pub returns : goal.returns
returns c =
    let has : c.has_norm.result ≡ true = cc in
    let obeys : c.obeys.result ≡ true = cc in
    let solves : c.solves.result ≡ true = cc in
    let fits : SFits w64 (get_or c.args.z.now c.width-width.result (pos 0)) = search rules in (
      λ t.
          makes_row c.args.system.now.equations c.args.k c.args.z.now c.width-width.result c.width-width.ensures.width c.requires.width (c.obeys.ensures.0 obeys) (c.solves.ensures.0 solves)
          (c.has_product.ensures.0 t ∙ to_z-of_z fits) (c.has_norm.ensures.0 has),
      λ h. c.has_product.ensures.1 (row_product c.args.system.now.equations c.args.k c.args.z.now c.width-width.result c.width-width.ensures.width c.requires.width h ∙ sym (to_z-of_z fits)),
    )
