-- What a reader must believe: how the zones of a set stand, where a state holds, and what a piece
-- of a trace is.
pub mod Runs
pub mod RunParts
pub mod RunsInTime
pub mod RunPlaces
pub mod RunSets
pub mod Instants
pub mod StateWords
pub mod Piece
-- What the functions inside promise each other.
pub mod Ends
pub mod Truth
pub mod NextPlace
pub mod WordBits
