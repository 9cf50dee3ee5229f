-- What a reader must believe: what a session stands for (StandsFor), and what it tells of a segment
-- (TellsNew, WasTold) and of the end (TellsLast); what a watch stands for (Watches), and that it
-- tells of each pattern what a session tells (TellEach, TellLastEach).
pub mod Session
pub mod Told
pub mod Watch
-- What the functions inside promise each other: IsNew, the words of Reading and Giving, and that
-- a session keeps facts which can be so in one way only (Well).
pub mod Reading
pub mod Giving
pub mod Well
