-- What the functions on buffers answer.
pub mod Input
pub mod Output
