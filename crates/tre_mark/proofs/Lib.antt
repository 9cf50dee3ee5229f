-- relations that hold of the same pairs
pub mod Agreeing
-- what a mark means speaks of times
pub mod Meanings
-- what a mark means where the rest of a trace is cut
pub mod Growth
-- marks of which nothing has begun, and marks that start
pub mod Starts
-- how large marks are
pub mod NodeCounts
