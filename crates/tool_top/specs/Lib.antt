pub mod Names
pub mod Plan
pub mod Outputs
pub mod Solved
pub mod Expected
pub mod Summary
pub mod Messages
pub mod Left
pub mod Inside
pub use Rattle.outside.specs.Files
pub use Rattle.outside.specs.Causes
pub use Rattle.outside.specs.Pieces
pub use Rattle.mat_files.specs.Texts
pub use Rattle.lift_core.specs.Systems
pub use Rattle.lift_core.specs.ToolSystems
pub use Rattle.lift_core.specs.Kinds
pub use Rattle.system_shape.specs.Problem
pub use Rattle.system_shape.specs.Slacks
pub use Rattle.system_shape.specs.Shape
pub use Rattle.tool_words.specs.Jobs
pub use Rattle.system_files.specs.Inputs
pub use Rattle.system_files.specs.Files as SystemFiles
pub use Rattle.solution_files.specs.Outputs as SolutionOutputs
pub use Rattle.solution_files.specs.Laws
pub use Rattle.lift_core.specs.Ends as LiftEnds
pub use Rattle.int_vector.specs.Vectors
pub use Rattle.stage_store.specs.Stage
pub use Rattle.restart_file.specs.Reading
pub use Rattle.backups.specs.Backups
pub use Rattle.backups.specs.Starts
pub use Rattle.backups.specs.Standing
