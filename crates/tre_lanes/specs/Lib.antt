-- What a reader must believe: when a row reaches a key, and which place is the next one.
pub mod Rows
-- What the functions inside promise each other: how far two lists of words are combined.
pub mod Words
