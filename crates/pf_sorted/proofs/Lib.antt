pub mod Indices
pub mod Sets
pub mod Maps
