-- What serves the proofs of the layers alone: no public contract cites it.
pub mod Writing
