pub mod Static
pub mod Checks
pub mod Listing
pub mod Formed
