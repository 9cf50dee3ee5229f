-- What a reader must believe: what is asked of an input and what its bytes say, what is told of it,
-- what was read and written, what stands in the output, and how that ends.
pub mod Sought
pub mod Request
pub mod Transcript
pub mod Blocks
pub mod Lines
pub mod OnlineText
pub mod Outputs
pub mod Streams
pub mod Online
pub mod Ends
-- What the functions inside promise each other.
pub mod Printed
pub mod Telling
