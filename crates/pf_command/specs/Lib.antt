pub mod Answers
pub mod Hunts
pub mod Charts
pub mod AskedRuns
pub mod Checks
pub mod Streams
pub mod Waiting
pub mod Printed
