-- The rules of a diary as facts; diaries that agree in every field; insertion by start; the bookings of a diary against its columns;
-- loads, searches, steps back in time, and what keeps the rules.
pub mod Rules
pub mod Same
pub mod Inserting
pub mod Rows
pub mod Loading
pub mod Columns
pub mod Searching
pub mod Stepping
pub mod Keeping
