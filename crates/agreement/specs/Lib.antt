pub mod Desks
pub mod Facts
pub mod History
pub mod Law
pub mod Runs
