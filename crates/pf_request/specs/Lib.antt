pub mod Request
pub mod Job
pub mod Calls
pub mod ReportEncoding
pub mod Encoding
pub mod View
