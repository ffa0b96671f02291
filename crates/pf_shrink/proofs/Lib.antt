pub mod Moved
pub mod Rounds
pub mod Hunts
pub mod Tried
