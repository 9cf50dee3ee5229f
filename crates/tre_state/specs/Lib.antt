-- What a reader must believe.
pub mod StateTree
pub mod State
pub mod Name
pub mod Names
pub mod Sieve
