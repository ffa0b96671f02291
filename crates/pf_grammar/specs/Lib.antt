pub mod Grammar
pub mod Parse
