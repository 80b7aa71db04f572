-- The resources held one by one, refusals of an order, skills as masks, and the quantity of the requirements left.
pub mod Passing
pub mod Masks
pub mod Judging
pub mod Holding
