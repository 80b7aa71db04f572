-- Laws of the rows of a slate and of the refusals, for this crate and `committing`.
pub mod Rows
pub mod Refusing
