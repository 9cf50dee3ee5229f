-- What a reader must believe.
pub mod Events
-- What the functions inside promise each other: how segments are packed.
pub mod Times
pub mod Said
pub mod Offsets
pub mod Unpacked
pub mod Pack
