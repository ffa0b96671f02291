pub mod Maker
pub mod Growth
pub mod Tests
pub mod Planned
pub mod Scopes
pub mod Guarded
