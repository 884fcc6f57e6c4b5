-- What the contracts of `recovery` cite, besides documents 01 and 02.
pub mod Recovered
