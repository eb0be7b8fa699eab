-- The full vectors of rows that are taken: what the buffer has, how long they are, and the multiple of the right sides.
use Rattle.std.proofs.Common.{◌≡◌, ◌≤◌, ◌<◌, List, ◌++◌, length, ap, sym, ◌∙◌, subst, arith, Bool, true, false}
use Rattle.std.specs.Prelude.{ℤ, pos}
use Rattle.int_vector.specs.Vectors.{norm, largest}
use Rattle.lift_core.specs.ToolSystems.{width}
use Rattle.lift_core.specs.declared.Tool.TheVariants.{Graver}
use Rattle.lift_core.proofs.Systems.{solution_length}
use Rattle.system_shape.specs.Problem.{IsX0, full_vector, IsUserSolution}
use Rattle.system_shape.specs.Shape.{has_x0}
use Rattle.system_shape.specs.Slacks.{linear_system}
use Rattle.system_shape.proofs.Solutions.{solves_full}
use Rattle.system_files.specs.declared.systems.Shaped.{Shaped}
use Rattle.decompose_tool.specs.Inside.Steps.{user_of, IsRead, Fills, FillsRows}

-- a full vector in range fills the buffer
pub filled : (full buffer : List ℤ) (b : Bool) → norm full ≤ largest → Fills full buffer b → buffer ≡ full
filled full buffer true small h = h.0
filled full buffer false small h = let l : largest < norm full = h in absurd (omega arith)

pub too_long : (old entries new : List ℤ) (b : Bool) → b ≡ false → FillsRows old entries new b → largest < norm (old ++ entries)
too_long old entries new true e h = absurd (cc)
too_long old entries new false e h = h

-- as long as the linear system is wide
pub full_width : (s : Shaped) (c : ℤ) (x : List ℤ) → IsRead s → IsUserSolution (user_of s) c x → length (full_vector (user_of s) c x) ≡ width s.system.equations
full_width s c x r h =
    solution_length (linear_system (user_of s)) (length (user_of s).rows) (full_vector (user_of s) c x) (solves_full (user_of s) r.shaped.formed c x h)
    ∙ ap (λ t. width t.equations) (sym r.shaped.is)

-- graver has no right sides
pub no_x0 : (s : Shaped) → s.system.tool ≡ Graver → (user_of s).has_x0 ≡ false
no_x0 s e = ap has_x0 e

pub zero_times : (s : Shaped) (c : ℤ) (x : List ℤ) → s.system.tool ≡ Graver → IsUserSolution (user_of s) c x → c ≡ pos 0
zero_times s c x e h = subst (λ (b : Bool). IsX0 b c) (no_x0 s e) h.factor

pub pushed_whole : (old entries new : List ℤ) (b : Bool) → b ≡ true → FillsRows old entries new b → new ≡ old ++ entries
pushed_whole old entries new true e h = h
pushed_whole old entries new false e h = absurd (cc)
