pub mod Farms
pub mod Floors
pub mod Seats
pub mod Waits
