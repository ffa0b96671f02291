pub mod Joined
pub mod Counted
pub mod Tests
