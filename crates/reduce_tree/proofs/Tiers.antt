-- Tiers: a branch with one kid more keeps its kids.
use Rattle.std.proofs.Common.{◌≡◌, ◌≢◌, ℕ, ◌*◌, ◌%◌, ◌^◌, ◌<◌, ◌≤◌, List, length, get_or, set, sym, ◌∙◌, subst, arith, length-set}
use Rattle.std.specs.Prelude.{bit_or}
use Rattle.std.specs.Int.{w128}
use Rattle.std.proofs.lemmas.List.{get_or-set_same, get_or-set_other}
use Rattle.std.proofs.lemmas.Nat.Bits.{bit_at_set_same}
use Rattle.reduce_tree.specs.Inside.Tiers.{BranchValue, IsKid, kid_of, KeepsKids}
use Rattle.reduce_tree.proofs.Bits.{set_kept}

abbrev pub branch_of : ℕ → List ℕ → BranchValue
branch_of classes kids = record { classes = classes; kids = kids }

module _ (classes class kid : ℕ) (kids filled : List ℕ) (fits : class < 128) where
  put_kept_in : (IsKid (branch_of classes kids) class → ⊥) → length kids ≤ length filled → ((k : ℕ) → k < length kids → get_or filled k 0 ≡ get_or kids k 0)
      → KeepsKids (branch_of classes kids) (branch_of (bit_or classes (1 * 2 ^ class % 2 ^ 128)) (set filled class kid))
  put_kept_in none count kept = λ c h.
      let d : c ≢ class = λ e. none (subst (IsKid (branch_of classes kids)) e h) in (
        record {
          set = set_kept classes (1 * 2 ^ class % 2 ^ 128) c h.set;
          inside = omega (arith, h.inside, count, length-set filled class kid);
        },
        get_or-set_other filled class c kid 0 d ∙ kept c h.inside,
      )

  pub put_here : class < length filled
      → IsKid (branch_of (bit_or classes (1 * 2 ^ class % 2 ^ 128)) (set filled class kid)) class × (kid_of (branch_of (bit_or classes (1 * 2 ^ class % 2 ^ 128)) (set filled class kid)) class ≡ kid)
  put_here inside = (
    record { set = bit_at_set_same w128 classes class fits; inside = omega (arith, inside, length-set filled class kid) },
    get_or-set_same filled class kid 0 inside,
  )

  pub put_kept : (old : BranchValue) → branch_of classes kids ≡ old → (IsKid old class → ⊥) → length kids ≤ length filled → ((k : ℕ) → k < length kids → get_or filled k 0 ≡ get_or kids k 0)
      → KeepsKids old (branch_of (bit_or classes (1 * 2 ^ class % 2 ^ 128)) (set filled class kid))
  put_kept old e none count kept =
      subst (λ b. KeepsKids b (branch_of (bit_or classes (1 * 2 ^ class % 2 ^ 128)) (set filled class kid))) e
      (put_kept_in (subst (λ b. IsKid b class → ⊥) (sym e) none) count kept)
