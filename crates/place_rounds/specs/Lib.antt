-- What each resource answers to each requirement as the code keeps it, how it names candidates and those held, and what it works out in a
-- round.
pub mod Tables
pub mod Named
pub mod Rounds
