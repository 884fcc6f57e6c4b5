-- What the contracts of `rows` cite, besides document 01.
pub mod Course
pub mod Stretch
pub mod View
pub mod Word
