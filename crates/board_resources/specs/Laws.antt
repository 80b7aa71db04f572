-- A place that is left on a board; the refusals of a new resource; what an entry puts on a board.
pub mod Counting
pub mod Replying
pub mod Keeping
