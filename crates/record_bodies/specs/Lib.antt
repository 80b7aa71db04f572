-- Numbers in the body of a record, how long it is, and the kinds of records.
pub mod Numbers
pub mod Bodies
pub mod Kinds
