-- That entries keep the rules of a board, and the laws behind it; what they answer is defined in board/specs (Enter).
pub mod Theorems
pub mod Laws
