-- Working time laid out, and what the functions over a layout answer.
pub mod Layout
