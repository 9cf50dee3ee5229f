pub mod Canonical
pub mod Differences
pub mod Found
pub mod Recorded
pub mod Said
pub mod Stops
pub mod Strips
pub mod TextPieces
pub mod Unread
pub mod Wanted
pub mod Rulings
pub mod Named
pub mod Checked
mod CheckedOnce
