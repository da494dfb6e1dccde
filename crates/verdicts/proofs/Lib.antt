-- Laws of the verdict, for the proofs of this crate and of those above.
pub mod VerdictLaws
