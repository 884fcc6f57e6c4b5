pub mod Laws
pub mod Pushed
pub mod Finished
