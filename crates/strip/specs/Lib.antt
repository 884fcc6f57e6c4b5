-- What the contracts of `strip` cite, over document 01's definitions in `format`.
pub mod Answers
