pub mod Backing
pub mod Leaving
pub mod Soundness
pub mod Coming
pub mod Looking
pub mod Whole
