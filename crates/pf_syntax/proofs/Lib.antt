pub mod InTurn
pub mod Extends
pub mod Folds
pub mod Formed
pub mod Grown
pub mod Named
pub mod NodeTableExtends
pub mod NodeTableFolds
pub mod NodeTableGrown
pub mod Measures
pub mod Roots
mod Worked
pub mod Crossing
