-- What `shape` answers.
use Rattle.std.specs.Prelude.{◌≡◌, Option, Some, None, Result, Ok, Err, ⊤}
use Rattle.lift_core.specs.Systems.{ToolSystem}
use Rattle.lift_core.specs.declared.Tool.{Tool}
use Rattle.system_shape.specs.Shape.{shape_fault, tool_system}
use Rattle.system_shape.specs.declared.files.Input.{Input}
use Rattle.system_shape.specs.declared.faults.ShapeFault.{ShapeFault}
use Rattle.system_shape.specs.declared.faults.ShapeEnd.{ShapeEnd}
use Rattle.system_shape.specs.declared.faults.ShapeEnd.TheVariants.{Bad, Memory}

-- the value, unless there is a fault
abbrev pub unless : {X : Type 0} → Option ShapeFault → X → Result X ShapeFault
unless (Some fault) x = Err fault
unless None x = Ok x

-- the first fault, or the linear system with slacks
abbrev pub shaped : Tool → Input → Result ToolSystem ShapeFault
shaped tool input = unless (shape_fault tool input) (tool_system tool input)

-- what was answered is what the files give, unless memory ran out
abbrev pub Shapes : Result ToolSystem ShapeEnd → Result ToolSystem ShapeFault → Type 0
Shapes (Ok system) given = given ≡ Ok system
Shapes (Err (Bad fault)) given = given ≡ Err fault
Shapes (Err Memory) given = ⊤
