pub mod FirstWord
pub mod CellByCell
pub mod SpelledTables
pub mod CellReaders
pub mod RowByRow
pub mod PrintedNumbers
pub mod ReadBack
pub mod Examples
