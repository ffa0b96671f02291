pub mod Followed
pub mod Simulated
pub mod Charges
pub mod Many
pub mod Tested
