pub mod Faults
pub mod Formats
pub mod Loads
