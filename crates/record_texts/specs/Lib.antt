-- What the functions that put text answer, and texts one behind the other.
pub mod Text
pub mod Laws
