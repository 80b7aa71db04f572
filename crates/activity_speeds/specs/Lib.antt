-- Document 01, 'Durations, setups, transport': speeds.
pub mod Speeds
