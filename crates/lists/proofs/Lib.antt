-- Laws of rows in a table, and of the list as bytes.
pub mod TableLaws
pub mod TakingLaws
pub mod GapLaws
pub mod JudgeLaws
pub mod StoreLaws
