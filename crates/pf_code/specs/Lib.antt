pub mod Registers
pub mod Points
pub mod Sound
pub mod Machine
pub mod Simulation
