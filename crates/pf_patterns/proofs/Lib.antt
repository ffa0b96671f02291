pub mod FitLaws
pub mod FitFrom
pub mod Substituted
pub mod Operands
pub mod Bound
pub mod SamePatterns
