-- What the contracts of `fields` cite, besides document 01.
pub mod Kinds
