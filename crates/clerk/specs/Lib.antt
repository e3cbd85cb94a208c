pub mod Fixings
pub mod Papers
pub mod Postings
pub mod Steps
pub mod Writing
