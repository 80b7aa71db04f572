-- What an order needs of each resource alone.
pub mod Plans
