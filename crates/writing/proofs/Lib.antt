-- The laws of the written stream, and the theorems.
pub mod Redo
pub mod Homes
pub mod Again
pub mod Standing
pub mod ReadBack
pub mod RowBack
pub mod RecordBack
pub mod PacketBack
pub mod PacketGood
pub mod StreamBack
pub mod Decoded
pub mod Packed
pub mod Checked
pub mod SamePlanes
pub mod SameStream
pub mod Theorems
pub mod Twice
