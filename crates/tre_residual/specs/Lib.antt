-- What a reader must believe: what a residual means for every rest of a trace (Means), when it is
-- well (IsWellAt), and what a constructor gives (Builds). What the functions inside promise each
-- other: IsComposition.
pub mod Residual
