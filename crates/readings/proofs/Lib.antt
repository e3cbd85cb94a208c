pub mod Cutting
pub mod Decimal
pub mod Imported
pub mod Listed
pub mod Saying
pub mod Values
pub mod Whole
