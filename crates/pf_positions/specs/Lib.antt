pub mod Signs
pub mod Spots
pub mod Added
pub mod Clauses
pub mod Written
pub mod Placed
pub mod Innermost
