-- What private contracts alone cite.
pub mod Bounds
pub mod Buckets
pub mod Filing
pub mod Searches
pub mod Tiers
