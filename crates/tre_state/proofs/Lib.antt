pub mod Places
pub mod Bits
pub mod Sieving
pub mod Deciding
