-- The last row decides, as the rows before it ascend.
use Rattle.std.proofs.Common.{arith, ap, sym, refl, ◌∙◌, ◌≡◌, ◌-◌, ◌+◌, length, get_or, List, Less, []}
use Rattle.std.specs.Prelude.{ℤ}
use Rattle.lift_core.specs.Stages.{norm_cmp}
use Rattle.restart_file.proofs.StageRows.{behind_rows_last, last_before, one_ascends}
use Rattle.restart_file.proofs.rows.is_behind.Goals as goal

pub returns-then-len-eq0 : goal.returns-then-len-eq0
returns-then-len-eq0 c = (λ t. one_ascends c.args.rows.now.rows c.args.z.now (omega (arith, c.len-len.ensures, c.if-len-eq0.true)), λ h. refl)

pub returns-in-Less : goal.returns-in-Less
returns-in-Less c =
    let some : length c.args.rows.now.rows ≡ (c.len-len.result - 1) + 1 = omega (arith, c.len-len.ensures, c.if-len-eq0.false) in
    let less : norm_cmp (get_or c.args.rows.now.rows (c.len-len.result - 1) []) c.args.z.now ≡ Less =
    sym (ap (λ (y : List ℤ). norm_cmp y c.args.z.now) c.row.ensures.row) ∙ sym c.compare.ensures ∙ c.in-Less.is
    in (λ t. behind_rows_last c.args.rows.now.rows (c.len-len.result - 1) c.args.z.now some c.requires.ascending less, λ h. refl)

pub returns-in-Equal : goal.returns-in-Equal
returns-in-Equal c =
    let some : length c.args.rows.now.rows ≡ (c.len-len.result - 1) + 1 = omega (arith, c.len-len.ensures, c.if-len-eq0.false) in (
      λ t. cc,
      λ h.
          (let less : c.compare.result ≡ Less = c.compare.ensures ∙ ap (λ (y : List ℤ). norm_cmp y c.args.z.now) c.row.ensures.row ∙ last_before c.args.rows.now.rows (c.len-len.result - 1) c.args.z.now some h in cc),
    )

pub returns-in-Greater : goal.returns-in-Greater
returns-in-Greater c =
    let some : length c.args.rows.now.rows ≡ (c.len-len.result - 1) + 1 = omega (arith, c.len-len.ensures, c.if-len-eq0.false) in (
      λ t. cc,
      λ h.
          (let less : c.compare.result ≡ Less = c.compare.ensures ∙ ap (λ (y : List ℤ). norm_cmp y c.args.z.now) c.row.ensures.row ∙ last_before c.args.rows.now.rows (c.len-len.result - 1) c.args.z.now some h in cc),
    )
