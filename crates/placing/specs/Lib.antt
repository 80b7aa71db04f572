-- What a fit is sought for, how the code tells the reply of placing, and demand 3 for two calls.
pub mod Sought
pub mod Answers
pub mod Told
pub mod Theorems
