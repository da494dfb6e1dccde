-- Laws of the data that are lent, which the proofs of crates above cite too, of whole lease requests, and of what a
-- reader may ask.
pub mod DataLaws
pub mod LeaseRequestLaws
pub mod LookingLaws
