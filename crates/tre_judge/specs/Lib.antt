-- What a reader must believe: what a verdict says.
pub mod Verdicts
-- What the functions inside promise each other.
pub mod Checks
