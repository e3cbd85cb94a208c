pub mod Charges
pub mod Estimates
pub mod Limits
pub mod Order
pub mod Rows
pub mod Uses
pub mod Weather
pub mod Worked
