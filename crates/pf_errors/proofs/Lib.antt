pub mod Ranks
pub mod Bools
