-- parts of a sequence
pub mod Parts
-- lists and moments
pub mod Lists
pub mod AtMoments
pub mod FoundSets
pub mod SetsOf
pub mod Chaining
-- what each form tells
pub mod SeenForms
pub mod FormsTold
pub mod Looks
pub mod InstancesTold
pub mod NodesLook
pub mod Shortened
-- the end of the trace
pub mod Closings
-- new nodes, and copies
pub mod NewNodes
pub mod Copies
pub mod BegunAt
pub mod LiteralTold
-- what begins, and what leads on
pub mod Begins
pub mod Early
pub mod Joins
-- what settles
pub mod Settled
-- forms that are entered
pub mod FormsEntered
pub mod Instances
pub mod InstancesEntered
