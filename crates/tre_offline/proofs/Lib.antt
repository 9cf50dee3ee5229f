pub mod Unions
pub mod Operations
pub mod FoundZones
pub mod LastingUpTo
pub mod Iterating
pub mod Spanning
pub mod EdgedLiterals
pub mod Beginnings
