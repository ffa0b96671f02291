pub mod After
pub mod Ends
pub mod Pieces
pub mod Starts
pub mod Tokens
pub mod Below
