pub mod Widths
pub mod Runs
pub mod Sizes
pub mod Turns
pub mod Progress
pub mod Records
pub mod Lengths
