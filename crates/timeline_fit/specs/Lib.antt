-- What the searches answer; the definitions themselves stand beside the diary.
pub mod Steps
