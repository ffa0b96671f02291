pub mod MailView
pub mod Tests
pub mod Receives
pub mod Searches
pub mod Inner
