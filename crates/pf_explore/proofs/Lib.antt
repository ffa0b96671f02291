pub mod Order
pub mod Branching
pub mod Pending
