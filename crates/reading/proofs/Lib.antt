-- Laws of a whole read, which the proofs of this crate and of those above cite.
pub mod ReadLaws
