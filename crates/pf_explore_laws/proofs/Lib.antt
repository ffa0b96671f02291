pub mod Replayed
pub mod Closed
pub mod Room
pub mod Within
pub mod Noted
pub mod Parting
pub mod Last
