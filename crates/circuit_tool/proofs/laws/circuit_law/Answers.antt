use Rattle.circuit_tool.proofs.Circuits.{least_rows_are_circuits}
use Rattle.circuit_tool.proofs.laws.circuit_law.Goals as goal

pub returns : goal.returns
returns c = least_rows_are_circuits
