pub mod Growing
pub mod Raising
pub mod Searching
pub mod Turns
pub mod UpperRows
pub mod ZoneRows
