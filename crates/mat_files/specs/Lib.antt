pub mod Words
pub mod Tables
pub mod Cells
pub mod Texts
pub mod Grids
pub mod Answers
pub mod Printed
pub mod Grammar
