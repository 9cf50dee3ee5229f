-- that a line says one thing
pub mod Saying
-- that it says something
pub mod Standing
-- what becomes of a file: one thing
pub mod Outcomes
-- what lines lead to
pub mod Lines
-- that something becomes of every file
pub mod Existence
-- that nothing is refused for want of memory
pub mod NoMemory
