-- Document 01, 'Diary' and the replies of 'Booking' and 'Asking a diary', in its order; then what the searches of the
-- crates above stand on.
pub mod Bookings
pub mod Diary
pub mod Valid
pub mod Free
pub mod Earliest
pub mod Replies
pub mod Book
pub mod Ask
pub mod Steps
-- What the definitions amount to, and the laws behind it.
pub mod Theorems
pub mod Laws
