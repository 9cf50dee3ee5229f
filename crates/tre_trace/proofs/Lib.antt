pub mod Segments
pub mod Readings
pub mod Bits
pub mod Words
pub mod Starts
pub mod Beside
pub mod Blocks
pub mod Naming
