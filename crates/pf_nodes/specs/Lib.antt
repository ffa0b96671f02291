pub mod Lends
pub mod Links
pub mod Mail
pub mod Nodes
pub mod Ownership
pub mod NodeRefs
