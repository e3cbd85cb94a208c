pub mod Balances
pub mod Chained
pub mod Charges
pub mod Gathered
pub mod Heats
pub mod MonthLines
pub mod Posted
pub mod Written
