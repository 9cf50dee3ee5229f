mod Entries
mod Fields
mod Heads
mod Naming
mod Opened
mod Plains
mod TraceLines
mod Words
