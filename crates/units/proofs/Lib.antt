pub mod Fitting
pub mod Paying
