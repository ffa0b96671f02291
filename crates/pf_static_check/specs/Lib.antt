pub mod Earliest
pub mod Marks
pub mod Defines
pub mod Walking
