-- Laws about pieces and replies, which the proofs of this crate and of those above cite.
pub mod PieceLaws
