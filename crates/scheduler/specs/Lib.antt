-- Document 01 on placing and committing, in its order.
pub mod Alone
pub mod Choosing
pub mod Plain
pub mod Entries
pub mod Fitting
pub mod Rows
pub mod Placing
pub mod Alike
pub mod Committing
-- The instants that can occur; how the code reads several diaries and those held.
pub mod Instants
pub mod Shares
pub mod Selections
-- What the definitions amount to, and the laws behind it.
pub mod Theorems
pub mod Laws
