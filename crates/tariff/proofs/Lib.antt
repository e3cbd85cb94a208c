pub mod Estimates
pub mod Floats
pub mod Ordered
pub mod Period
pub mod Prices
pub mod WorkedOut
pub mod Worth
