pub mod Paths
pub mod Laws
pub mod Endings
pub mod Commands
pub mod Problems
pub mod Ends
pub mod Inside
pub use Rattle.outside.specs.Files
pub use Rattle.outside.specs.Causes
pub use Rattle.outside.specs.Pieces
pub use Rattle.int_vector.specs.Vectors
pub use Rattle.mat_files.specs.Cells
pub use Rattle.lift_core.specs.Lists
pub use Rattle.solution_files.specs.Outputs
pub use Rattle.system_files.specs.Files as SystemFiles
pub use Rattle.system_files.specs.Kernel
pub use Rattle.system_files.specs.Basis
pub use Rattle.tool_frame.specs.Wordings
pub use Rattle.tool_frame.specs.Outputs as FrameOutputs
