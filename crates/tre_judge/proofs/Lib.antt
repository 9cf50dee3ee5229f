pub mod Deciding
pub mod Alike
pub mod Ordered
mod Failing
