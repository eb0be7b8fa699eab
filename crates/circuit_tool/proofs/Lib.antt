pub mod Within
pub mod Scaling
pub mod Coprime
pub mod Circuits
pub mod Words
pub mod Keeping
pub mod Concluding
