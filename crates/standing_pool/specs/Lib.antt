pub use Rattle.lift_core.specs.Systems
pub use Rattle.lift_core.specs.Stages
pub use Rattle.lift_core.specs.Ends as LiftEnds
pub use Rattle.stage_store.specs.Stage
pub use Rattle.stage_store.specs.Published
pub use Rattle.lift_run.specs.Runs
pub mod Parts
pub mod Standing
pub mod Ends
pub mod Inside
