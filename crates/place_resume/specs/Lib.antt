-- What is kept of an instant that is tried.
pub mod Trials
