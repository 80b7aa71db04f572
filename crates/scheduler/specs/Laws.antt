-- Lemmas on sorting; on least starts of several diaries; on choosing and the closing fit; on alike boards; on commitments.
pub mod Ranking
pub mod Together
pub mod Events
pub mod Latest
pub mod Asking
pub mod Owning
pub mod Ruled
pub mod Reported
pub mod Closing
pub mod Counting
pub mod AlikeDiaries
pub mod Committed
