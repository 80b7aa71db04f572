-- What the search answers; the definition itself stands beside the diary.
pub mod Steps
