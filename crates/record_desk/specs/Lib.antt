-- What is in hand at the start.
pub mod Desk
