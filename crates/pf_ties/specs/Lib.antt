pub mod Names
pub mod Ties
pub mod Fates
pub mod Refusals
pub mod Laws
