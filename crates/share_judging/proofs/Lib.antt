-- Laws of the judgement, for the proofs of crates above too.
pub mod JudgingLaws
