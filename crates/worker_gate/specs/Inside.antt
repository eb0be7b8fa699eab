pub mod Team
pub mod Steps
