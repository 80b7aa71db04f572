-- Signed numbers; the places of numbers and what is known of them; the rules of a board as facts, and what keeps them; replies.
pub mod Numbers
pub mod Masks
pub mod Seeing
pub mod Facts
pub mod Counts
pub mod Setting
pub mod Replying
pub mod Keeping
pub mod Knowing
