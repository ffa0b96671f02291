pub mod Parsed
pub mod Alike
pub mod Alone
pub mod Reported
pub mod Named
pub mod Guided
pub mod Undotted
pub mod Reached
