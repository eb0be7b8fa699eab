pub mod Problem
pub mod Slacks
pub mod Shape
pub mod Answers
pub mod Laws
pub mod Tables
pub mod Inside
