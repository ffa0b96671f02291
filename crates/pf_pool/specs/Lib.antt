pub mod Profile
pub mod Runs
pub mod Deques
pub mod Responses
pub mod Hands
pub mod Sound
