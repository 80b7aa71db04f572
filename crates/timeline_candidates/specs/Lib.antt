-- What the start candidates of a diary are.
pub mod Steps
