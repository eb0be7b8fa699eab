pub use Rattle.norm_board.specs.Rule
pub use Rattle.norm_board.specs.Seen
pub use Rattle.norm_board.specs.Puts
pub use Rattle.norm_board.specs.Books
pub mod Work
pub mod Inside
