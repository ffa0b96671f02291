pub mod Clients
pub mod Hall
pub mod Looks
