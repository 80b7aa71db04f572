-- What is asked of one resource.
pub mod Seeking
