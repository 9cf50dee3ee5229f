-- What a reader must believe.
pub mod Comparison
pub mod Values
pub mod Named
pub mod Texts
pub mod Signals
-- What the functions inside promise each other, and the readers of other definitions.
pub mod Pieces
pub mod Behind
