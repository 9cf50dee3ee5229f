mod Bits
mod Digits
mod Ranges
mod Bases
mod Colons
mod Differing
mod SignalLength
mod ReadsOf
mod SignalParts
pub mod OneSignals
mod SomeSignals
pub mod Cutting
pub mod Deciding
pub mod Defining
pub mod OneReading
pub mod SomeReading
