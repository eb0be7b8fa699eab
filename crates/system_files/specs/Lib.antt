pub mod Sources
pub mod Files
pub mod Ends
pub mod Inputs
pub mod Kernel
pub mod Basis
pub use Rattle.outside.specs.Files as OutsideFiles
pub use Rattle.outside.specs.Causes
pub use Rattle.mat_files.specs.Cells
pub use Rattle.lift_core.specs.Systems
pub use Rattle.lift_core.specs.ToolSystems
pub use Rattle.system_shape.specs.Problem
pub use Rattle.system_shape.specs.Slacks
pub use Rattle.system_shape.specs.Shape
pub use Rattle.int_vector.specs.Vectors
