pub mod Crossing
pub mod Repeating
pub mod Mapped
pub mod Texts
pub mod Counted
pub mod Few
pub mod Made
pub mod Outcomes
