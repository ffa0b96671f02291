pub mod ListItems
pub mod View
pub mod Given
pub mod Outcome
pub mod PatternAlone
