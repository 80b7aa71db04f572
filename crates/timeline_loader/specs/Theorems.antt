-- What the reply to a run amounts to, on a calendar and on a diary, and runs of it.
pub mod Meaning
pub mod Diaries
pub mod Runs
