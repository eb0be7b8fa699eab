pub mod Bits
pub mod Inside
pub mod Items
pub mod Laws
pub mod Signatures
pub mod Tree
