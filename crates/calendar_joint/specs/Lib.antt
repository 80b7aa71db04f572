-- Calendars that keep the rules; what the parts of a sweep answer.
pub mod Layout
pub mod Sweep
