-- Laws of the lists of candidates.
pub mod Listing
