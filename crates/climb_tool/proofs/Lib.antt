pub mod Columns
pub mod Entries
pub mod Choices
pub mod Optimal
pub mod Leading
pub mod Concluding
