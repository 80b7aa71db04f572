-- A resource and its companions as the code keeps them: where they stand, how far their asking has come, and who is asked next. What they
-- answer together is defined in scheduler/specs (Alone).
pub mod Seats
pub mod Steps
pub mod Members
