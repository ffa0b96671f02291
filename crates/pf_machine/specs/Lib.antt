pub mod Lifted
pub mod Statuses
pub mod Stays
