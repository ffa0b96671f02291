pub mod InboxView
pub mod Tests
pub mod Received
pub mod Searches
pub mod Inner
