-- What a reader must believe.
pub mod Faults
pub mod Written
pub mod Told
pub mod Calls
pub mod MemoryInput
pub mod MemoryOutput
pub mod SystemInput
pub mod SystemOutput
-- What the functions inside promise each other.
pub mod Opened
