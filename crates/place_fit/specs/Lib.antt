-- What the fitters are given and what they answer, and what they ask one after another.
pub mod Closing
pub mod Asks
