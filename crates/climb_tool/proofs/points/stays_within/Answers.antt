-- The entry at a place decides, together with what is left.
use Rattle.std.proofs.Common.{◌≡◌, ◌<◌, ◌≤◌, ◌∙◌, ℕ, arith, rules, refl, sym, length, get_or, pos, SFits, w64, to_z-of_z, Bool, true, false}
use Rattle.std.specs.Prelude.{ℤ, IsTrue, ◌↔◌, List}
use Rattle.climb_tool.specs.Inside.Turns.{turned_entry, vector_of}
use Rattle.climb_tool.proofs.Entries.{Fits, length-turned, entry_turned, entry_within, within_end, within_length, fits_step, fits_not}
use Rattle.climb_tool.proofs.points.stays_within.Goals as goal

pub fits-requires-clause-low : goal.fits-requires-clause-low
fits-requires-clause-low c =
    let l : c.loop-i.i < length c.args.upper.now = omega arith in
    let fx : SFits w64 (get_or c.args.x.now c.loop-i.i (pos 0)) = search rules in
    simp to_z-of_z ((entry_within c.args.upper.now c.args.x.now c.loop-i.i (pos 0) l c.requires.point).0)

pub fits-requires-clause-high : goal.fits-requires-clause-high
fits-requires-clause-high c =
    let l : c.loop-i.i < length c.args.upper.now = omega arith in
    let fx : SFits w64 (get_or c.args.x.now c.loop-i.i (pos 0)) = search rules in
    let fu : SFits w64 (get_or c.args.upper.now c.loop-i.i (pos 0)) = search rules in
    simp to_z-of_z ((entry_within c.args.upper.now c.args.x.now c.loop-i.i (pos 0) l c.requires.point).1)

pub returns-then-not-fits : goal.returns-then-not-fits
returns-then-not-fits c =
    let upper : List ℤ = c.args.upper.now in
    let x : List ℤ = c.args.x.now in
    let v : List ℤ = c.args.candidate.vector.now in
    let g : List ℤ = vector_of c.args.candidate in
    let i : ℕ = c.loop-i.i in
    let l : i < length upper = omega arith in
    let fu : SFits w64 (get_or upper i (pos 0)) = search rules in
    let fx : SFits w64 (get_or x i (pos 0)) = search rules in
    let fv : SFits w64 (get_or v i (pos 0)) = search rules in
    let ft : SFits w64 c.turned_entry.result = search rules in
    let is : c.turned_entry.result ≡ turned_entry c.args.candidate.negative (get_or v i (pos 0)) = simp to_z-of_z at c.turned_entry.ensures in
    let t : c.turned_entry.result ≡ get_or g i (pos 0) = is ∙ sym (entry_turned c.args.candidate.negative v i (pos 0) (omega (arith, l, c.requires.vector))) in
    let long : length g ≡ length upper = length-turned c.args.candidate.negative v ∙ c.requires.vector in
    let f : IsTrue c.fits.result ↔ Fits (get_or upper i (pos 0)) (get_or x i (pos 0)) c.turned_entry.result = simp to_z-of_z at c.fits.ensures in (
      λ e. absurd (cc),
      λ w. absurd (fits_not upper x g i c.turned_entry.result l c.requires.point long t (λ k. clash c.fits.result c.if-not-fits.true
          (f.1 k)) w),
    ) where
      clash : (b : Bool) → b ≡ false → b ≡ true → ⊥
      clash b e k = cc

pub loop-i-preserved : goal.loop-i-preserved
loop-i-preserved c =
    let upper : List ℤ = c.args.upper.now in
    let x : List ℤ = c.args.x.now in
    let v : List ℤ = c.args.candidate.vector.now in
    let g : List ℤ = vector_of c.args.candidate in
    let i : ℕ = c.loop-i.i in
    let l : i < length upper = omega arith in
    let fu : SFits w64 (get_or upper i (pos 0)) = search rules in
    let fx : SFits w64 (get_or x i (pos 0)) = search rules in
    let fv : SFits w64 (get_or v i (pos 0)) = search rules in
    let ft : SFits w64 c.turned_entry.result = search rules in
    let is : c.turned_entry.result ≡ turned_entry c.args.candidate.negative (get_or v i (pos 0)) = simp to_z-of_z at c.turned_entry.ensures in
    let t : c.turned_entry.result ≡ get_or g i (pos 0) = is ∙ sym (entry_turned c.args.candidate.negative v i (pos 0) (omega (arith, l, c.requires.vector))) in
    let long : length g ≡ length upper = length-turned c.args.candidate.negative v ∙ c.requires.vector in
    let f : IsTrue c.fits.result ↔ Fits (get_or upper i (pos 0)) (get_or x i (pos 0)) c.turned_entry.result = simp to_z-of_z at c.fits.ensures in
    fits_step upper x g i c.turned_entry.result l c.requires.point long t c.loop-i.invariant (f.0 c.if-not-fits.false)

pub returns : goal.returns
returns c =
    let upper : List ℤ = c.args.upper.now in
    let x : List ℤ = c.args.x.now in
    let g : List ℤ = vector_of c.args.candidate in
    let l : length upper ≤ c.loop-i.i = omega arith in (
      λ e. c.loop-i.invariant.1
          (within_end upper x g c.loop-i.i l (sym (within_length upper x c.requires.point))
          (length-turned c.args.candidate.negative c.args.candidate.vector.now ∙ c.requires.vector)),
      λ w. refl,
    )
