-- Document 01 on an order: durations of 'Durations, setups, transport' (speeds are a crate of their own), the orders of 'Placing', and the
-- checks of an order in the replies of 'Placing'; then what the functions behind the checks may take for granted, and
-- an order as it is made.
pub mod Durations
pub mod Serving
pub mod Ready
pub mod Check
pub mod Lawful
pub mod Order
-- What the definitions amount to, and the laws behind it.
pub mod Theorems
pub mod Laws
