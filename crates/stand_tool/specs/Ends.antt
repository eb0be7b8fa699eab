-- The ends of the command, as ends of the commands `graver`, `hilbert` and `zsolve`.
use Rattle.std.specs.Prelude.{◌≡◌, ℕ}
use Rattle.standing_pool.specs.declared.ends.StandEnd.TheVariants as run
use Rattle.tool_top.specs.declared.ends.Part.{Part}
use Rattle.tool_top.specs.declared.ends.End.{End}
use Rattle.tool_top.specs.declared.ends.End.TheVariants as top
use Rattle.tool_top.specs.Plan.{answer_of}
use Rattle.stand_tool.specs.declared.ends.TopEnd.{TopEnd}
use Rattle.stand_tool.specs.declared.ends.TopEnd.TheVariants.{Done, Usage, Input, Run, Outside, Memory}

-- the end stands for this one of a command; it does not say of which file a device's fault is, and running out of memory is no
-- end of a run
abbrev pub StandsFor : TopEnd → End → Type 0
StandsFor (Done solutions pairs) end = (norms : ℕ) × (end ≡ top.Done solutions pairs norms)
StandsFor Usage end = end ≡ top.Usage
StandsFor (Input fault) end = end ≡ answer_of fault
StandsFor (Run (run.Overflow stage place)) end = end ≡ top.Overflow stage place
StandsFor (Run (run.Pairs stage norm needed)) end = end ≡ top.Pairs stage norm needed
StandsFor (Run (run.Rows stage norm count)) end = end ≡ top.Rows stage norm count
StandsFor (Run run.Memory) end = ⊥
StandsFor Outside end = (part : Part) × (end ≡ top.Outside part)
StandsFor Memory end = end ≡ top.Memory

-- the end stands for one of a command of which this holds
abbrev pub Stands : TopEnd → (End → Type 0) → Type 0
Stands end fact = (its : End) × StandsFor end its × fact its

-- at Done, this
abbrev pub OnDone : TopEnd → Type 0 → Type 0
OnDone (Done solutions pairs) fact = fact
OnDone end fact = Unit {0}

-- all is done, and there is nothing to say
abbrev pub IsDoneEnd : TopEnd → Type 0
IsDoneEnd (Done solutions pairs) = Unit {0}
IsDoneEnd end = ⊥

-- the exit status
abbrev pub code_of : TopEnd → ℕ
code_of (Done solutions pairs) = 0
code_of Usage = 1
code_of (Input fault) = 2
code_of (Run (run.Overflow stage place)) = 3
code_of (Run (run.Pairs stage norm needed)) = 4
code_of (Run (run.Rows stage norm count)) = 4
code_of (Run run.Memory) = 6
code_of Outside = 5
code_of Memory = 6
