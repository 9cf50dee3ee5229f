-- What a reader must believe.
pub mod TextReading
-- The same of whole lines, in other words.
pub mod TraceLines
-- What the functions inside promise each other.
pub mod Lines
pub mod Words
pub mod Plain
-- Why the law of the format holds, which its impl cites.
pub mod Times
