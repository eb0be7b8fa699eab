pub mod PrefixReadings
pub mod LinesLeft
pub mod AcceptedTexts
pub mod WrittenLines
pub mod WrittenRows
pub mod WrittenSystem
pub mod WrittenText
