-- The never-written list by itself (docs/RULES.md, N1 to N12, N16, D13, D14).
pub mod Stretches
pub mod List
pub mod Unwritten
pub mod Claims
