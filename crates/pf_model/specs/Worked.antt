-- Runs that the checker itself evaluates: their modules, and their reports.
pub mod Modules
pub mod Runs
