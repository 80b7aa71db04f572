-- Demand 3 for two calls.
pub mod Calls
