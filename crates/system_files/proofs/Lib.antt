pub mod Cutting
pub mod Negatives
pub mod Kernels
pub mod Bases
pub mod Shaping
