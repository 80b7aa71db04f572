-- Companions that join once each; the greatest setup; what is taken from the board for those held, and what it amounts to.
mod Once
mod Greatest
mod Parting
