-- What a reader must believe.
pub mod Trace
pub mod Segments
pub mod Literal
pub mod Reading
pub mod Planes
-- What the functions inside promise each other.
pub mod Starts
pub mod Words
pub mod Block
pub mod Beside
