-- The judgement of a share (docs/RULES.md, S21 to S30).
pub mod Judging
