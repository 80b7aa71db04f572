-- That entries keep the rules.
pub mod Keeping
