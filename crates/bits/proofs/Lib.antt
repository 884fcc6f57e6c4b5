pub mod WordUpdate
