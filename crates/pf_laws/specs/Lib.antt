pub mod ReadModules
pub mod Printable
