-- Document 01 from categories on: setups and transport, the board paragraph of 'Placing', the board's rules and the replies of 'Board
-- entries', in this order.
pub mod Resources
pub mod Setups
pub mod Valid
pub mod Transport
pub mod Places
pub mod Replies
pub mod Enter
-- What the definitions amount to, and the laws behind it.
pub mod Theorems
pub mod Laws
