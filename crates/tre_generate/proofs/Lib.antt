pub mod Counts
pub mod FixedTrees
pub mod MadeTraces
pub mod Probing
pub mod Refusals
pub mod Telling
pub mod Summaries
