pub mod Combining
pub mod Lanes
