pub mod Wordings
pub mod Outputs
pub use Rattle.outside.specs.Pieces
pub use Rattle.outside.specs.Files
pub use Rattle.outside.specs.Causes
pub use Rattle.solution_files.specs.Outputs as Written
