pub mod Fillers
mod Parts
