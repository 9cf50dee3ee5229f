-- What a reader must believe: what words and a file of checks ask for, how a run ends, and how that
-- is told.
pub mod Checks
pub mod Program
pub mod Request
pub mod Run
pub mod Status
-- What follows of a made run.
pub mod MadeRun
-- What the functions inside promise each other.
pub mod Parts
