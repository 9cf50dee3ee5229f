-- What a reader must believe.
pub mod Format
pub mod Blanks
-- What the functions inside promise each other.
pub mod Walk
pub mod Skims
pub mod Bytes
pub mod Marks
pub mod Parts
-- Why a mask of sixteen bytes tells a class, which the impl of one cites.
pub mod Lanes
-- Why the laws of a reader of pieces hold, which its impl cites.
pub mod Joins
pub mod Growing
pub mod Times
