mod Blanks
pub mod Cuts
pub mod Walks
pub mod Skimming
mod Feeding
mod Fed
mod Lanes
