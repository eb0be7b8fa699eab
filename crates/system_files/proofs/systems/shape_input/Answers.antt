-- The system fits the files, or the fault is their first.
use Rattle.std.proofs.Common.{ap}
use Rattle.system_shape.specs.Shape.{shape_fault, tool_system}
use Rattle.system_files.specs.Inputs.{unless_fault}
use Rattle.system_files.proofs.Shaping.{fits, shape_stops}
use Rattle.system_files.proofs.systems.shape_input.Goals as goal

pub returns-in_err-system-clause-fault : goal.returns-in_err-system-clause-fault
returns-in_err-system-clause-fault c =
    shape_stops c.args.tool c.args.input.now c.in_err-system.field-0.0 c.from_residual.result c.in_err-system.ensures.system c.from_residual.ensures.1

pub returns-clause-fault : goal.returns-clause-fault
returns-clause-fault c =
    let fit = fits (shape_fault c.args.tool c.args.input.now) (tool_system c.args.tool c.args.input.now) c.in_ok-system.system c.in_ok-system.ensures.system in
    ap (λ o. unless_fault o c.args.input.now) fit.0

pub returns-clause-shaped : goal.returns-clause-shaped
returns-clause-shaped c =
    let fit = fits (shape_fault c.args.tool c.args.input.now) (tool_system c.args.tool c.args.input.now) c.in_ok-system.system c.in_ok-system.ensures.system in
    record { fits = fit.0; is = fit.1; formed = c.in_ok-system.ensures.well_formed; columns = c.in_ok-system.ensures.columns }
