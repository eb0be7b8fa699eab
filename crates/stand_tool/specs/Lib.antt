pub use Rattle.outside.specs.Files
pub use Rattle.outside.specs.Causes
pub use Rattle.outside.specs.Pieces
pub use Rattle.tool_words.specs.Jobs
pub use Rattle.lift_core.specs.Systems
pub use Rattle.lift_run.specs.Runs
pub use Rattle.standing_pool.specs.Ends as StandingEnds
pub use Rattle.backups.specs.Starts
pub use Rattle.backups.specs.Standing
pub use Rattle.system_shape.specs.Shape
pub use Rattle.system_files.specs.Inputs
pub use Rattle.tool_top.specs.Plan
pub use Rattle.tool_top.specs.Expected
pub use Rattle.tool_top.specs.Left
pub use Rattle.tool_top.specs.Messages as ToolMessages
pub use Rattle.tool_top.specs.Solved as ToolSolved
pub use Rattle.tool_top.specs.Summary
pub mod Requests
pub mod Plans
pub mod Ends
pub mod Messages
pub mod Solved
pub mod Inside
