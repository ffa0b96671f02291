pub mod Farms
pub mod Faults
pub mod Lines
pub mod Pairs
pub mod Replies
pub mod Served
pub mod Texts
