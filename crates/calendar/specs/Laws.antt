-- Laws of refusals, sets, spans, the search and work ends; the rules of a calendar as facts.
pub mod Refusals
pub mod Sets
pub mod Spanning
pub mod Searching
pub mod WorkEnds
pub mod StepsBack
pub mod Rules
pub mod Adding
pub mod Running
