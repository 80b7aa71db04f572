-- What a record does in `offer` (docs/RECORDS.md), that a refused one changes nothing, and small runs on the definitions.
pub mod Replies
pub mod Offers
pub mod Kinds
pub mod Theorems
