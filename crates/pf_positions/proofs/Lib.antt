pub mod Adding
pub mod Weights
pub mod Placing
pub mod Fronts
pub mod Inner
pub mod Lines
