pub mod Ended
pub mod Asking
