-- What a reader must believe: what a mark is made of (MarkTree), what it means for every rest of a
-- trace, when it is well, and when it can take in what begins later (Marked), and how large it is
-- (Nodes). What the functions inside promise each other: nothing more.
pub mod MarkTree
pub mod Marked
pub mod Nodes
