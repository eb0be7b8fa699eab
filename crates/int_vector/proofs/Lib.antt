pub mod Numbers
pub mod Vectors
pub mod Steps
pub mod Products
pub mod Sums
