-- What serves the layers below the programs: no definition of the problem or of the ends stands on it.
pub mod Capped
pub mod Units
pub mod Decompositions
pub mod Written
pub mod OrderedRows
