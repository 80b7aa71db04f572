-- Document 01, 'Program slot': lines.
pub mod Lines
