-- Laws of node numbers and of rows 26 to 29, for the proofs of this crate and of those above.
pub mod NodeLaws
pub mod ContentLaws
pub mod FaultLaws
