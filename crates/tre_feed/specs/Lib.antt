-- What a reader must believe: what bytes come to, how an input stands, how a turn and a whole
-- reading end, what was read of an input, and what the front of one is.
pub mod Outcome
pub mod Comes
pub mod Standing
pub mod Turn
pub mod Traces
pub mod Input
pub mod Front
-- Where names stand among others, who shares a reader, and what a view shows.
pub mod Places
pub mod Shares
pub mod Shown
-- What the functions inside promise each other.
pub mod Each
pub mod Seen
pub mod Packing
pub mod Stops
pub mod Taking
pub mod Growth
pub mod Dump
