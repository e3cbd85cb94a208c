pub mod Fairness
pub mod Parts
pub mod Passing
pub mod Picked
pub mod Weighing
pub mod Worked
