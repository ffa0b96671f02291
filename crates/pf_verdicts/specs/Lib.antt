pub mod Causes
pub mod Further
pub mod Judging
pub mod Watching
pub mod Laws
