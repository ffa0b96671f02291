pub mod Steps
pub mod Turned
pub mod Inboxes
pub mod Stayed
pub mod InParts
