pub mod Commands
pub mod Splits
pub mod Faults
pub mod View
pub mod Complete
pub mod Clients
