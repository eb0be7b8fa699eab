pub mod NumberRuns
pub mod Fields
pub mod Plays
