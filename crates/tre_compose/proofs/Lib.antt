pub mod Joined
pub mod Midpoints
