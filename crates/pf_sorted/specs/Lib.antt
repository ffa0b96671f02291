pub mod Sorted
pub mod Values
pub mod Lends
pub mod Maps
