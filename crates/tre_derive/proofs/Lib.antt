-- the two parts of a step
pub mod ToldAndLeft
-- sets of zones beside relations
pub mod Held
-- what residuals stand for behind a piece
pub mod Standing
-- and so what marks that go over it leave, what is fresh, and what a step makes of each form
pub mod Passing
pub mod StepsOfForms
-- and what a residual stands for at the end of a trace, form by form
pub mod ClosingForms
-- and of a pattern under way
pub mod EndingNodes
