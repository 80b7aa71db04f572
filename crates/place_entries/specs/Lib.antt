-- What is read of the cells of the entries, and how the code gathers the entries of those held.
pub mod Cells
pub mod Parts
