-- What reading a diary answers.
pub mod Reading
