-- what texts spell, and how they are refused
pub mod Texts
-- what was read of a file of checks
pub mod Plans
-- what a text of definitions says
pub mod Definings
-- what a job asks for
pub mod Asking
-- that words and a file of checks ask for one thing
pub mod Once
-- how a run ended
pub mod Ended
-- the end of a run, by its parts
pub mod Parts
-- what that says of a run's promise
pub mod Promise
-- made runs
pub mod MadeRuns
-- lines on standard error
pub mod Pieces
