-- What a reader must believe.
pub mod Timescale
pub mod VcdReading
pub mod Sorted
pub mod Needs
pub mod Looking
-- What the functions inside promise each other.
pub mod Brief
pub mod Bases
pub mod Kept
pub mod Signals
pub mod Pairs
pub mod Defined
pub mod Offers
pub mod Unread
pub mod Letters
pub mod Sections
pub mod Taken
-- Why the law of the format holds, which its impl cites.
pub mod Times
