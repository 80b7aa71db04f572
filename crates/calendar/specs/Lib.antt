-- The limits of document 01, what a refusal is, sets, the least instant; then document 01, 'Calendar' and the replies of 'Window or block',
-- in its order.
pub mod Limits
pub mod Refusals
pub mod Sets
pub mod Search
pub mod Spans
pub mod Valid
pub mod Replies
pub mod Fits
pub mod Work
pub mod Add
-- The plainest terms, what the definitions amount to in them, and the laws behind it.
pub mod Plain
pub mod Theorems
pub mod Laws
