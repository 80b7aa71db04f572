-- 'Each' of a list, the cells of an array, and when two things are the same: what they are; laws of them.
pub mod Every
pub mod Cells
pub mod Same
pub mod Laws
