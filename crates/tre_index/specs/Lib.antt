-- What a reader must believe: the keys of the rows that a zone has to do with, and items in the
-- order of time.
pub mod ZoneKeys
pub mod Turn
-- What the functions inside promise each other: the levels of bounds over a list of rows.
pub mod Index
