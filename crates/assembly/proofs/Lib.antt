pub mod Shapes
pub mod Parts
pub mod Whole
pub mod Held
pub mod Places
pub mod Fronts
pub mod Streams
pub mod Mild
