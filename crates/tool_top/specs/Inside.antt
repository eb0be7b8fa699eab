-- What only private contracts cite.
pub mod Ends
pub mod Names
pub mod Writing
