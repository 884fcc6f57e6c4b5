-- What the contracts of `writer` cite, besides documents 01 and 02.
pub mod Write
