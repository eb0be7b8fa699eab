-- Each solution gets its product with the row as a last entry; the first whose product leaves the range is the one that
-- is answered.
use Rattle.std.proofs.Common.{◌≡◌, ◌∙◌, sym, refl, ap, arith, rules, subst, ◌<◌, ◌≤◌, length, Some, SFits, w64, to_z-of_z}
use Rattle.std.specs.Prelude.{List, ℤ, nat_abs}
use Rattle.std.proofs.lemmas.List.{append-nil}
use Rattle.int_vector.specs.Vectors.{dot}
use Rattle.lift_core.specs.Systems.{row}
use Rattle.stage_store.proofs.FirstRows.{fit_more, fit_not, extended_more}
use Rattle.stage_store.proofs.lifting.extended.Goals as goal

pub returns-in-None : goal.returns-in-None
returns-in-None c =
    let l : c.loop-i.i < length c.args.solutions.now.rows = omega (arith, c.loop-i-test.true, c.len-i-end.ensures) in (
      refl,
      fit_not (row c.args.system.now.equations c.args.stage) c.args.solutions.now.rows c.row-solution.result.now c.loop-i.i l c.row-solution.ensures.row c.loop-i.invariant.fit
          (subst (λ (r : List ℤ). 9223372036854775807 < nat_abs (dot r c.row-solution.result.now)) c.row-row.ensures.row c.in-None.ensures)
          ∙ ap (λ (v : List ℤ). Some v) (sym (c.new.ensures ∙ c.in_ok-copy_with-in-None.ensures ∙ append-nil c.row-solution.result.now)),
    )

pub loop-i-preserved : goal.loop-i-preserved
loop-i-preserved c =
    let l : c.loop-i.i < length c.args.solutions.now.rows = omega (arith, c.loop-i-test.true, c.len-i-end.ensures) in
    let r : SFits w64 c.in-Some.last = search rules in
    let t : c.in-Some.last ≡ dot (row c.args.system.now.equations c.args.stage) c.row-solution.result.now = c.in-Some.ensures.0 ∙ ap (λ (r : List ℤ). dot r c.row-solution.result.now) c.row-row.ensures.row in
    record {
      width = c.push.ensures.width ∙ c.loop-i.invariant.width;
      room = omega (arith, c.push.ensures.spare, c.loop-i.invariant.room);
      rows = extended_more (row c.args.system.now.equations c.args.stage) c.args.solutions.now.rows c.loop-i.waiting.rows c.push.new.self.rows c.row-solution.result.now c.deref.result.now c.in-Some.last c.loop-i.i l c.row-solution.ensures.row c.loop-i.invariant.rows t
          (c.deref.ensures.value ∙ simp to_z-of_z at c.in_ok-copy_with-in-Some.ensures) c.push.ensures.rows;
      fit = fit_more (row c.args.system.now.equations c.args.stage) c.args.solutions.now.rows c.row-solution.result.now c.loop-i.i l c.row-solution.ensures.row c.loop-i.invariant.fit (subst (λ (x : ℤ). nat_abs x ≤ 9223372036854775807) t c.in-Some.ensures.1);
    }
