mod Records
mod CsvRecords
mod Judging
mod Valuing
mod Telling
mod Reading
mod Keeping
mod Tables
mod NameColumns
mod Pieces
pub mod OneReading
pub mod SomeReading
