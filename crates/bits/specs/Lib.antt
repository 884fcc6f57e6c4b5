-- What the contracts of `bits` cite, besides document 01.
pub mod View
