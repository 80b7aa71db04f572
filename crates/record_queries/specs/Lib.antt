-- What the asks of the runs beside the Rust answer.
pub mod Replies
pub mod Asks
pub mod Kinds
