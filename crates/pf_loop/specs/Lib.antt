pub mod View
pub mod Flow
pub mod Run
pub mod Reached
pub mod Judged
