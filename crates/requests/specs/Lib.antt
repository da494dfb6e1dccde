-- What the code that takes a request apart answers.
pub mod Offsets
pub mod Cursors
pub mod Kinds
pub mod Forms
