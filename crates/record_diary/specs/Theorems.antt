-- Small runs on the definitions.
pub mod Runs
