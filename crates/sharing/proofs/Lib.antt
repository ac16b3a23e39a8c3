pub mod ByPlace
pub mod Granted
pub mod Tried
pub mod Turns
