pub mod Ends
pub mod Schedules
pub mod Reported
pub mod Whole
pub mod Exploring
