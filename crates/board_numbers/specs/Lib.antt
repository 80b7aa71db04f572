-- What the code of document 01's 'Board entries' answers on its way; the replies stand beside the board.
pub mod Entry
