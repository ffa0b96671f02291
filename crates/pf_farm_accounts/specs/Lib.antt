pub mod Places
pub mod Knowing
pub mod Passes
pub mod Rows
pub mod Receipts
pub mod DequeParts
pub mod DequePasses
pub mod DequeViews
