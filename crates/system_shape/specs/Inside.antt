-- What serves the proofs of this layer alone.
pub mod Accepted
pub mod Cells
