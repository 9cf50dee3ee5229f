-- Lemmas.
mod Begun
mod Collected
pub mod Cuts
mod Inputs
pub mod Outcomes
pub mod Pieces
mod Seeing
mod Standing
pub mod Among
pub mod Sharing
pub mod Grouping
mod Names
mod Needing
mod Parts
