pub mod Cells
pub mod Entries
pub mod Runs
pub mod Apart
pub mod Marks
pub mod Moves
