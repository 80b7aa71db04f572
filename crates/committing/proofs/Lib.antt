-- Booking the lines of a slate, one line more.
mod Ahead
