pub mod Numbers
pub mod Times
pub mod Sayings
pub mod Unpacking
pub mod Adding
