pub mod Absent
pub mod Reporting
pub mod Notices
pub mod Texts
