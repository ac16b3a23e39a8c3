pub mod Fees
pub mod Fits
pub mod Limits
pub mod Payments
