-- How running latest ends go on; how many cells are at or before an instant; cells that are sorted.
pub mod Shift
pub mod Passing
pub mod Sorting
