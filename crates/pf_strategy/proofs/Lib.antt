pub mod Meant
pub mod Places
pub mod Renewed
pub mod Lasting
