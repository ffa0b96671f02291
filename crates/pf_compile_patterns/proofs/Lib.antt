pub mod Grown
pub mod Laid
pub mod Dependent
pub mod Plans
pub mod Guarded
pub mod Sizes
pub mod Slices
