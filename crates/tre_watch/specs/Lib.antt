-- What a reader must believe: what a line of a file of checks says, and what becomes of the file.
pub mod Forms
pub mod Lines
pub mod Outcome
-- What the functions inside promise each other.
pub mod Steps
