pub mod FaultLaws
pub mod EdgeLaws
pub mod MoveLaws
pub mod PacketLaws
pub mod BandLaws
pub mod ReturnLaws
pub mod BaseLaws
pub mod Recovered
