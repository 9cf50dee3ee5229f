-- What a reader must believe.
pub mod Defined
pub mod Whole
pub mod Records
pub mod Rows
pub mod Needs
pub mod Definitions
-- What the functions inside promise each other.
pub mod Left
pub mod Durations
pub mod Told
pub mod Kept
pub mod Times
