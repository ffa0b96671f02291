pub mod Positions
pub mod Shown
pub mod Sentences
pub mod Explanation
