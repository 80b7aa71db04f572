-- The records of a run one after another, and the run as the loop takes it.
pub mod Judging
pub mod Steps
