-- Laws on plain values: candidates tried in rising order, for this crate and those above it, and the least start of resumable work.
pub mod Trying
pub mod Finding
