pub mod Numerals
pub mod Schedules
