pub mod CommandLine
pub mod Jobs
pub mod Settings
pub mod Typing
pub mod Ending
pub mod Seen
pub mod Taken
pub mod ByClap
