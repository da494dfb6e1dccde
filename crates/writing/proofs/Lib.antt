-- Laws of a whole test-and-write, for the proofs of this crate and of those above.
pub mod WriteRequestLaws
