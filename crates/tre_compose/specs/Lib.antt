-- What a reader must believe: a moment in the middle (HasHalfway). What the functions inside
-- promise each other: where two zones touch, and the bounds that they compose to.
pub mod Composition
pub mod Begins
