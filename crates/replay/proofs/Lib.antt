pub mod Heads
pub mod Tallied
pub mod Told
