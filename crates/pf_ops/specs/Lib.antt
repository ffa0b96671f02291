pub mod Arithmetic
pub mod Reasons
pub mod Results
pub mod Operations
pub mod Guards
pub mod Surroundings
