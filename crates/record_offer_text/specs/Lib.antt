-- What an answer of `offer` prints (docs/RECORDS.md), and a small run of it.
pub mod Lines
pub mod Theorems
