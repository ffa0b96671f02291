pub mod Right
pub mod Orders
