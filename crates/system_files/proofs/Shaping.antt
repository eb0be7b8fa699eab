-- Matrices that fit each other, or the fault of their shape.
use Rattle.std.proofs.Common.{◌≡◌, Option, None, Some, Result, Ok, Err, IsErrAnd, refl, ap, sym, subst}
use Rattle.lift_core.specs.declared.Tool.{Tool}
use Rattle.system_shape.specs.Shape.{shape_fault, tool_system}
use Rattle.system_shape.specs.Answers.{shaped, unless, Shapes}
use Rattle.system_shape.specs.declared.files.Input.{Input}
use Rattle.system_shape.specs.declared.faults.ShapeFault.{ShapeFault}
use Rattle.system_shape.specs.declared.faults.ShapeEnd.{ShapeEnd}
use Rattle.system_shape.specs.declared.faults.ShapeEnd.TheVariants as shape
use Rattle.system_files.specs.Ends.{shape_end}
use Rattle.system_files.specs.Inputs.{unless_fault, FindsBy}
use Rattle.system_files.specs.declared.faults.InputStop.{InputStop}

is_fault : {X : Type 0} (o : Option ShapeFault) (x : X) (fault : ShapeFault) → unless o x ≡ Err fault → o ≡ Some fault
is_fault None x fault h = cc
is_fault (Some f) x fault h = cc

pub fits : {X : Type 0} (o : Option ShapeFault) (x s : X) → unless o x ≡ Ok s → (o ≡ None) × (s ≡ x)
fits None x s h = (refl, cc)
fits (Some f) x s h = (cc, cc)

stops : (X : Type 0) (tool : Tool) (input : Input) (e : ShapeEnd) → Shapes (Err e) (shaped tool input)
    → FindsBy {X = X} (λ _. input) (Err (shape_end e)) (unless_fault (shape_fault tool input) input)
stops X tool input (shape.Bad fault) h = ap (λ o. unless_fault o input) (is_fault (shape_fault tool input) (tool_system tool input) fault h)
stops X tool input shape.Memory h = tt

pub shape_stops : {X : Type 0} (tool : Tool) (input : Input) (e : ShapeEnd) (r : Result X InputStop) → Shapes (Err e) (shaped tool input)
    → IsErrAnd r (λ y. y ≡ shape_end e) → FindsBy (λ _. input) r (unless_fault (shape_fault tool input) input)
shape_stops tool input e (Ok x) h is = absurd is
shape_stops {X} tool input e (Err y) h is =
    subst (λ z. FindsBy {X = X} (λ _. input) (Err z) (unless_fault (shape_fault tool input) input)) (sym is) (stops X tool input e h)
