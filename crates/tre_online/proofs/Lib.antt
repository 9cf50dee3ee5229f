pub mod NewZones
pub mod Standing
pub mod Finding
pub mod AtTheEnd
pub mod Nodes
pub mod Watching
pub mod Becoming
