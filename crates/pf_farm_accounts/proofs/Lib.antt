pub mod Moves
pub mod Ends
pub mod Standing
pub mod Seen
pub mod Numbers
pub mod Seats
pub mod DequeSteps
