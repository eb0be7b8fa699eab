-- What is left of the columns decides, column by column.
use Rattle.std.proofs.Common.{◌≡◌, ◌∙◌, ◌-◌, ◌+◌, get_or, pos, ap, sym, subst₂, rules, SFits, w64, w8, to_z-of_z, arith, None}
use Rattle.std.specs.Prelude.{ℕ, ℤ, Option}
use Rattle.lift_core.specs.Columns.{HasSign, IsCapped}
use Rattle.decompose_tool.proofs.UserRows.{column_split}
use Rattle.decompose_tool.proofs.checking.obeys.Goals as goal

pub returns-then-not-fits_column : goal.returns-then-not-fits_column
returns-then-not-fits_column c =
    let signs = c.args.system.now.equations.signs in
    let caps = c.args.system.now.equations.caps in
    let x = c.args.x.now in
    let j = c.loop-j.j in
    let split = column_split signs caps x j c.loop-j-test.true c.requires.width c.keeps.ensures.cap_count in
    let fx : SFits w64 (get_or x j (pos 0)) = search rules in
    let fs : SFits w8 c.sign.result = search rules in
    let test = simp to_z-of_z at c.fits_column.ensures in
    let e : j + 1 - 1 ≡ j = omega arith in
    let sign : c.sign.result ≡ get_or signs j (pos 0) = c.sign.ensures.sign ∙ ap (λ k. get_or signs k (pos 0)) e in
    let cap : c.cap.result ≡ get_or caps j None = c.cap.ensures ∙ ap (λ k. get_or caps k None) e in (
      λ t. absurd (cc),
      λ all.
          let h = split.0 (c.loop-j.invariant.0 all) in
          sym c.if-not-fits_column.true ∙ test.1 (subst₂ (λ (a : ℤ) (k : Option ℕ). HasSign a (get_or x j (pos 0)) × IsCapped k (get_or x j (pos 0))) (sym sign) (sym cap) h.0),
    )

pub loop-j-preserved : goal.loop-j-preserved
loop-j-preserved c =
    let signs = c.args.system.now.equations.signs in
    let caps = c.args.system.now.equations.caps in
    let x = c.args.x.now in
    let j = c.loop-j.j in
    let split = column_split signs caps x j c.loop-j-test.true c.requires.width c.keeps.ensures.cap_count in
    let fx : SFits w64 (get_or x j (pos 0)) = search rules in
    let fs : SFits w8 c.sign.result = search rules in
    let test = simp to_z-of_z at c.fits_column.ensures in
    let e : j + 1 - 1 ≡ j = omega arith in
    let sign : c.sign.result ≡ get_or signs j (pos 0) = c.sign.ensures.sign ∙ ap (λ k. get_or signs k (pos 0)) e in
    let cap : c.cap.result ≡ get_or caps j None = c.cap.ensures ∙ ap (λ k. get_or caps k None) e in (
      λ all. (split.0 (c.loop-j.invariant.0 all)).1,
      λ rest. c.loop-j.invariant.1 (split.1 (subst₂ (λ (a : ℤ) (k : Option ℕ). HasSign a (get_or x j (pos 0)) × IsCapped k (get_or x j (pos 0))) sign cap (test.0 c.if-not-fits_column.false), rest)),
    )
