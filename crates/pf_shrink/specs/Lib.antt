pub mod Hunts
pub mod Rounds
pub mod Kept
pub mod Standing
pub mod Tried
