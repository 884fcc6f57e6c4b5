-- What the contracts of `coefficients` cite, besides document 01.
pub mod Together
