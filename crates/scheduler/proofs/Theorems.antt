-- What choosing and placing amount to, how many rounds there are, and demand 3.
pub mod Meaning
pub mod Counting
pub mod Demand3
