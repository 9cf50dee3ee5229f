-- What a reader must believe: bounds, intervals, zones, the ranges that their bounds spell, what two
-- zones hold together, lists of zones, what they hold of ordered pairs and when these end, and
-- durations up to a longest one.
pub mod Bound
pub mod Interval
pub mod Zone
pub mod Ranges
pub mod United
pub mod ZoneList
pub mod Held
pub mod Longest
-- What the functions inside promise each other: how six bounds are closed, and what lies beyond
-- them.
pub mod Closing
pub mod Beyond
