-- Laws of tests, of 'each' and of cells, for every crate above.
pub mod Basics
pub mod Every
pub mod Each
pub mod Arrays
pub mod Cells
pub mod Same
pub mod Chains
