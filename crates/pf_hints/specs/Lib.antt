pub mod Advised
pub mod Fixed
pub mod Faults
