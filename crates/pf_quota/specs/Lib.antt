pub mod Charges
pub mod Refusals
pub mod Usage
pub mod Checks
