-- What records of kinds 1 to 4 and 16 to 24 do (docs/RECORDS.md): the order, each record; then runs on the definitions.
pub mod Replies
pub mod Orders
pub mod Records
pub mod Theorems
