pub mod Schedules
pub mod Last
pub mod Places
pub mod Room
pub mod Within
pub mod Parting
