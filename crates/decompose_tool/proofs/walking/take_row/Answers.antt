-- The row's full vector is in the buffer; for graver the negative follows.
use Rattle.std.proofs.Common.{◌≡◌, ◌∙◌, ap, sym, subst, inl, inr, arith, length, SFits, w64, to_z-of_z}
use Rattle.std.specs.Prelude.{ℕ}
use Rattle.std.specs.List.{AllByRecursion}
use Rattle.std.proofs.lemmas.Result.{IfOk-weaker}
use Rattle.int_vector.specs.Range.{InRange}
use Rattle.int_vector.specs.Vectors.{negated}
use Rattle.lift_core.specs.ToolSystems.{width}
use Rattle.system_shape.specs.Problem.{full_vector}
use Rattle.decompose_tool.specs.Rows.{unless_zero}
use Rattle.decompose_tool.specs.Inside.Steps.{user_of, Obeys, HasRest, GoesOnWhere}
use Rattle.decompose_tool.proofs.Filling.{norm_range}
use Rattle.decompose_tool.proofs.FullVectors.{filled, full_width}
use Rattle.decompose_tool.proofs.RowWalks.{plain_row, graver_row}
use Rattle.decompose_tool.proofs.walking.take_row.Goals as goal

pub take-requires-clause-state : goal.take-requires-clause-state
take-requires-clause-state c =
    let s = c.args.shaped.now in
    let ft : SFits w64 c.args.times = c.ranges.times in
    let full = full_vector (user_of s) c.args.times c.args.x.now in
    let is : c.fill.new.full.items ≡ full = filled full c.fill.new.full.items c.in_ok-fill.field-0 c.requires.sound.full (simp to_z-of_z at c.in_ok-fill.ensures) in
    subst (λ (k : ℕ). HasRest k c.args.walk.now) (sym (ap length (c.deref.ensures.value ∙ is) ∙ full_width s c.args.times c.args.x.now c.requires.read c.requires.sound.solution)) c.requires.state

pub take-requires-clause-range : goal.take-requires-clause-range
take-requires-clause-range c =
    let s = c.args.shaped.now in
    let ft : SFits w64 c.args.times = c.ranges.times in
    let full = full_vector (user_of s) c.args.times c.args.x.now in
    let is : c.fill.new.full.items ≡ full = filled full c.fill.new.full.items c.in_ok-fill.field-0 c.requires.sound.full (simp to_z-of_z at c.in_ok-fill.ensures) in
    subst (AllByRecursion InRange) (sym (c.deref.ensures.value ∙ is)) (norm_range full c.requires.sound.full)

pub take_negative-requires-clause-width : goal.take_negative-requires-clause-width
take_negative-requires-clause-width c =
    let s = c.args.shaped.now in
    let ft : SFits w64 c.args.times = c.ranges.times in
    let full = full_vector (user_of s) c.args.times c.args.x.now in
    let is : c.fill.new.full.items ≡ full = filled full c.fill.new.full.items c.in_ok-fill.field-0 c.requires.sound.full (simp to_z-of_z at c.in_ok-fill.ensures) in
    ap length (c.deref_mut.ensures.value ∙ is) ∙ full_width s c.args.times c.args.x.now c.requires.read c.requires.sound.solution

pub take_negative-requires-clause-range : goal.take_negative-requires-clause-range
take_negative-requires-clause-range c =
    let s = c.args.shaped.now in
    let ft : SFits w64 c.args.times = c.ranges.times in
    let full = full_vector (user_of s) c.args.times c.args.x.now in
    let is : c.fill.new.full.items ≡ full = filled full c.fill.new.full.items c.in_ok-fill.field-0 c.requires.sound.full (simp to_z-of_z at c.in_ok-fill.ensures) in
    subst (AllByRecursion InRange) (sym (c.deref_mut.ensures.value ∙ is)) (norm_range full c.requires.sound.full)

pub returns-in-Graver-clause-goes : goal.returns-in-Graver-clause-goes
returns-in-Graver-clause-goes c =
    let s = c.args.shaped.now in
    let x = c.args.x.now in
    let ft : SFits w64 c.args.times = c.ranges.times in
    let full = full_vector (user_of s) c.args.times x in
    let is : c.fill.new.full.items ≡ full = filled full c.fill.new.full.items c.in_ok-fill.field-0 c.requires.sound.full (simp to_z-of_z at c.in_ok-fill.ensures) in
    IfOk-weaker c.take_negative.result
    (λ _. GoesOnWhere (Obeys s.system.equations (negated c.deref_mut.result.now)) (length x) (unless_zero (negated c.deref_mut.result.now)) c.take.new.walk c.take_negative.new.walk) _
    (λ _ two. graver_row s c.args.times x s.input.mat.cols (length x) c.deref.result.now c.deref_mut.result.now c.args.walk.now c.take.new.walk c.take_negative.new.walk c.requires.read
    (sym c.tool.ensures ∙ c.in-Graver.is) c.requires.sound.solution c.requires.width (c.deref.ensures.value ∙ is) (c.deref_mut.ensures.value ∙ is) c.in_ok-take.ensures.goes two)
    c.take_negative.ensures.goes

pub returns-in-Graver-clause-state : goal.returns-in-Graver-clause-state
returns-in-Graver-clause-state c =
    let s = c.args.shaped.now in
    let ft : SFits w64 c.args.times = c.ranges.times in
    let full = full_vector (user_of s) c.args.times c.args.x.now in
    let is : c.fill.new.full.items ≡ full = filled full c.fill.new.full.items c.in_ok-fill.field-0 c.requires.sound.full (simp to_z-of_z at c.in_ok-fill.ensures) in
    let wide : length c.deref_mut.result.now ≡ width s.system.equations = ap length (c.deref_mut.ensures.value ∙ is) ∙ full_width s c.args.times c.args.x.now c.requires.read c.requires.sound.solution in
    IfOk-weaker c.take_negative.result (λ _. HasRest (length c.deref_mut.result.now) c.take_negative.new.walk) _
    (λ _ h. subst (λ (k : ℕ). HasRest k c.take_negative.new.walk) wide h) c.take_negative.ensures.state

pub returns-in-Hilbert : goal.returns-in-Hilbert
returns-in-Hilbert c =
    let s = c.args.shaped.now in
    let x = c.args.x.now in
    let ft : SFits w64 c.args.times = c.ranges.times in
    let full = full_vector (user_of s) c.args.times x in
    let is : c.fill.new.full.items ≡ full = filled full c.fill.new.full.items c.in_ok-fill.field-0 c.requires.sound.full (simp to_z-of_z at c.in_ok-fill.ensures) in
    let wide : length c.deref.result.now ≡ width s.system.equations = ap length (c.deref.ensures.value ∙ is) ∙ full_width s c.args.times x c.requires.read c.requires.sound.solution in
    record {
      goes = plain_row s.system.tool (user_of s) c.args.times x s.input.mat.cols (length x) c.deref.result.now c.args.walk.now c.take.new.walk (inl (sym c.tool.ensures ∙ c.in-Hilbert.is)) c.requires.width
          (c.deref.ensures.value ∙ is) c.in_ok-take.ensures.goes;
      state = subst (λ (k : ℕ). HasRest k c.take.new.walk) wide c.in_ok-take.ensures.state;
      few = omega (arith, c.in_ok-take.ensures.few);
    }

pub returns-in-Zsolve : goal.returns-in-Zsolve
returns-in-Zsolve c =
    let s = c.args.shaped.now in
    let x = c.args.x.now in
    let ft : SFits w64 c.args.times = c.ranges.times in
    let full = full_vector (user_of s) c.args.times x in
    let is : c.fill.new.full.items ≡ full = filled full c.fill.new.full.items c.in_ok-fill.field-0 c.requires.sound.full (simp to_z-of_z at c.in_ok-fill.ensures) in
    let wide : length c.deref.result.now ≡ width s.system.equations = ap length (c.deref.ensures.value ∙ is) ∙ full_width s c.args.times x c.requires.read c.requires.sound.solution in
    record {
      goes = plain_row s.system.tool (user_of s) c.args.times x s.input.mat.cols (length x) c.deref.result.now c.args.walk.now c.take.new.walk (inr (sym c.tool.ensures ∙ c.in-Zsolve.is)) c.requires.width
          (c.deref.ensures.value ∙ is) c.in_ok-take.ensures.goes;
      state = subst (λ (k : ℕ). HasRest k c.take.new.walk) wide c.in_ok-take.ensures.state;
      few = omega (arith, c.in_ok-take.ensures.few);
    }
