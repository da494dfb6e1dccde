-- Laws of a share's layout, which the proofs of this crate and of those above cite: boundaries in order, parts packed
-- between them, the header, the least multiple.
pub mod BoundLaws
pub mod PackedLaws
pub mod HeaderLaws
pub mod MultipleLaws
