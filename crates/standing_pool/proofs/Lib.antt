pub mod Parts
pub mod Rows
pub mod PartSums
pub mod Crossing
pub mod Finishing
