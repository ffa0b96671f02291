pub mod Evaluated
pub mod Sizes
pub mod Clauses
pub mod Parts
pub mod Targets
pub mod Rows
pub mod Compiled
