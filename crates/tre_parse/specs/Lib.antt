-- What a reader must believe: the words of a text, the grammar, and what becomes of it.
pub mod Words
pub mod Grammar
pub mod Outcome
-- The same by what the scanner finds.
pub mod Tokens
pub mod Lexeme
pub mod Scanned
pub mod ScannedOutcome
-- What the laws say in other words.
pub mod Begins
pub mod Signs
pub mod Numbering
pub mod Strength
pub mod Ends
-- What the functions inside promise each other.
pub mod Front
pub mod Limits
pub mod Known
pub mod Scan
pub mod TokenWords
pub mod Joins
pub mod Parts
pub mod Operands
pub mod Reader
pub mod Unkept
pub mod Reading
pub mod Answers
