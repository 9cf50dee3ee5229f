-- What a reader must believe: the made trace, the fixed pattern, the probes, and the text of the
-- summary (IsSummary).
pub mod Made
pub mod FixedPattern
pub mod Probes
pub mod Summary
-- What the functions inside promise each other.
pub mod Told
pub mod Tallies
