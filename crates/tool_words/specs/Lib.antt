pub mod Numbers
pub mod Choices
pub mod Walks
pub mod Jobs
pub mod Inside
pub use Rattle.outside.specs.Names
