pub mod Crowds
pub mod Keeping
pub mod Soundness
