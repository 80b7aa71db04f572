-- When a closure over the two ends of a span is a test of spans.
pub mod Tests
