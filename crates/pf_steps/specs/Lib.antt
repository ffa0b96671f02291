pub mod Profile
pub mod Orders
