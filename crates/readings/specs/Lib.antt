pub mod Faults
pub mod Formats
pub mod Imports
pub mod Laws
pub mod Listing
pub mod Texts
