-- Laws of the rewriting in place, which the proofs of this crate and of those above cite.
pub mod TableLaws
pub mod GapLaws
pub mod StretchLaws
pub mod RewriteLaws
pub mod Whole
