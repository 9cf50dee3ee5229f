-- What a reader must believe: nothing, since the contracts are said in the words of the crates
-- below. What the functions inside promise each other: the bounds that a zone gets where a bound of
-- another is missed or met, and parts of zones that are still to be compared with others.
pub mod Sides
pub mod Parts
