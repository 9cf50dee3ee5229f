-- What a reader must believe: what a residual stands for behind a piece (StandsBehind), the matches
-- that are fresh (IsFresh), what a step tells and leaves (StepsTo, Advances, GoesOverTo), and what
-- the end of a trace tells (ClosesTo). What the functions inside promise each other:
-- BeginsBehindPairs, TellsAsSet, ComesBehind, BeginsAt, BeginsToo, HeldAtEnd, LedTo.
pub mod Derivative
pub mod Closing
