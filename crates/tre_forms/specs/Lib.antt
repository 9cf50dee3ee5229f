-- What a reader must believe.
pub mod Enters
pub mod Begun
pub mod Dull
