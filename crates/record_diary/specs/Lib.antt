-- Document 01, 'Program slot', in its order.
pub mod Records
pub mod Stream
pub mod Theorems
