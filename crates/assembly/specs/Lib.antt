pub mod Packet
pub mod Front
pub mod Tile
