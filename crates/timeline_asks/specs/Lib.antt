-- What the code of document 01's 'Asking a diary' answers; the definitions themselves stand beside the diary.
pub mod Answers
