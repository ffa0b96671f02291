pub mod Marking
pub mod Trailing
pub mod Passing
pub mod Leasts
pub mod Defining
