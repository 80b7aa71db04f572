-- The marked runs, edges of a diary, and boards for demand 3.
pub mod Theorems
