-- The marked runs M1 to M12, what a diary holds, and two boards that meet the hypotheses of demand 3.
pub mod Runs
pub mod Edges
pub mod Witness
