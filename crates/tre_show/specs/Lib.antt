-- What a reader must believe
pub mod Interval
pub mod Line
pub mod Shown
pub mod Order
pub mod StateText
pub mod PatternText
pub mod ReadBack
-- What the functions inside promise each other
pub mod Intervals
