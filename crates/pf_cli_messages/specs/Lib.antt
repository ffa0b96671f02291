pub mod Reasons
pub mod Lacked
pub mod Explained
pub mod Notices
pub mod Texts
