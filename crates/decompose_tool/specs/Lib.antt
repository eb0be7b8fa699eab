pub mod Walks
pub mod Laws
pub mod Endings
pub mod Requests
pub mod Sets
pub mod Rows
pub mod Ends
pub mod Messages
pub mod Inside
pub use Rattle.outside.specs.Files
pub use Rattle.outside.specs.Causes
pub use Rattle.outside.specs.Pieces
pub use Rattle.int_vector.specs.Vectors
pub use Rattle.int_vector.specs.Operations
pub use Rattle.mat_files.specs.Cells
pub use Rattle.lift_core.specs.Systems
pub use Rattle.lift_core.specs.Lists
pub use Rattle.system_shape.specs.Problem
pub use Rattle.system_shape.specs.Shape
pub use Rattle.system_shape.specs.Laws as ShapeLaws
pub use Rattle.solution_files.specs.Outputs
pub use Rattle.system_files.specs.Files as SystemFiles
pub use Rattle.system_files.specs.Inputs
pub use Rattle.system_files.specs.Kernel
pub use Rattle.tool_frame.specs.Wordings
pub use Rattle.tool_frame.specs.Outputs as FrameOutputs
