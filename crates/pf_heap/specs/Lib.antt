pub mod Heap
pub mod Marks
pub mod View
