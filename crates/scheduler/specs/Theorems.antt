-- What each reply means, how many rounds there are, demand 3, and what a commitment leaves.
pub mod Meaning
pub mod Counting
pub mod Demand3
pub mod Committed
