-- Laws of rows 23 to 25, for the proofs of this crate and of those above.
pub mod CodingLaws
pub mod OrderLaws
