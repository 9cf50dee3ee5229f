-- What a reader must believe: what the bytes of an input say, what is wanted, when two requests
-- want the same, and how an answer ends.
pub mod Recorded
pub mod Said
pub mod Wanted
pub mod Findings
pub mod Alike
pub mod Ends
-- What the functions inside promise each other.
pub mod Request
pub mod Parts
pub mod Listed
pub mod Printing
