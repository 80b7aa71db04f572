-- Lemmas on choosing and on alike boards, by what a resource answers.
pub mod Answering
pub mod Rounds
pub mod Chosen
pub mod Ruled
pub mod Dropping
pub mod AlikeResources
pub mod AlikeHeld
pub mod AlikePlacing
