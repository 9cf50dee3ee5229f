-- What a reader must believe: what the zones of all matches are. What the functions inside promise
-- each other is said with the words of the layers below.
pub mod MatchSet
pub mod Lengths
pub mod Edged
