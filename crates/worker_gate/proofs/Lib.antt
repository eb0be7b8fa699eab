pub mod Works
pub mod Teams
