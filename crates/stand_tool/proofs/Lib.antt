pub mod WordLists
pub mod FreshRuns
pub mod EndsOfRuns
pub mod PlainJobs
pub mod StandingFor
pub mod Speaking
