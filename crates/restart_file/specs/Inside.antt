-- What private contracts alone cite.
pub mod Sending
pub mod Classes
pub mod Words
pub mod Windows
pub mod Drafts
pub mod Ways
