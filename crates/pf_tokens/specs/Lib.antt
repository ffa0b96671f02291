pub mod Bytes
pub mod TokenKinds
pub mod Rules
pub mod Scan
pub mod NumberedTokens
pub mod View
pub mod Numbering
pub mod Offsets
