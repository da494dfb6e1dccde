-- Laws about requests' bytes, which the proofs of this crate and of those above cite.
pub mod CursorLaws
pub mod FormLaws
