pub mod Asking
pub mod Naming
pub mod Stretches
pub mod Workings
