-- What the contracts of `inspection` cite, besides documents 01 and 02.
pub mod Inspect
