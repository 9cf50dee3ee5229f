-- the laws that a relation over pairs may have
pub mod Laws
-- that the operators keep them
pub mod Scaling
pub mod Order
pub mod Chains
pub mod Steps
pub mod Implication
pub mod Agreement
pub mod Shortening
-- times in ticks beside fractions
pub mod Ticks
-- and how the pairs around a cut come from those of the parts
pub mod CutLaws
-- how sequences, and what an intersection or a restriction began behind, go over a cut
pub mod Walk
-- how repetitions do
pub mod Repeats
-- how instances of intersections and restrictions do
pub mod Instances
-- and where nothing that enters goes on
pub mod Dull
-- relations that are the same up to a longest duration
pub mod SameLaws
