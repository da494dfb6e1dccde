-- The audit and the sweep (docs/RULES.md, U1 to U9).
pub mod Auditing
pub mod Sweeping
pub mod Claims
pub mod Edges
