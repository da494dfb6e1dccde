-- Laws of offsets that fit, for the proofs of this crate and of those above.
pub mod FieldLaws
