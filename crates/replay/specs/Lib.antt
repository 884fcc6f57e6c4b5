pub mod Heads
pub mod Kinds
pub mod Numbers
pub mod Tally
