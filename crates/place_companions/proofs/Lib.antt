-- The least start on one diary; a resource and its companions by their places.
pub mod Starting
pub mod Seating
