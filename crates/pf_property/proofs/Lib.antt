pub mod Shown
pub mod Patterns_read
pub mod One
pub mod AnyProperty
pub mod Crossing
