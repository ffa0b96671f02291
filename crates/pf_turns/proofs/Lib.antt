pub mod Reasons
pub mod Settled
pub mod Halted
pub mod Answered
pub mod Stayed
pub mod Going
