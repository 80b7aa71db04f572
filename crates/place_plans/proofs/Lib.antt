-- Durations and arrivals in range.
pub mod Planning
