pub mod Progress
pub mod Leaving
pub mod Adding
pub mod Refusing
