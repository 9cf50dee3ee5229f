pub mod Meanings
pub mod Crossings
pub mod Forms
pub mod Growth
