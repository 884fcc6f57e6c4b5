pub mod Undo
pub mod Down
