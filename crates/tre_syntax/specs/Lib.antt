-- What a reader must believe.
pub mod PatternTree
pub mod Expr
pub mod Pattern
pub mod Rest
pub mod Meaning
pub mod Begun
-- What the laws say in other words than the meaning.
pub mod Neighbours
pub mod FirstUse
pub mod Cut
pub mod AtTheEnd
