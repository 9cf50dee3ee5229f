-- sequences and alternations
pub mod Forms
-- repetitions
pub mod Repeated
-- restrictions and intersections
pub mod Restricted
-- atoms
pub mod Literals
-- leaving out
pub mod Idle
-- entered by every moment
pub mod Whole
