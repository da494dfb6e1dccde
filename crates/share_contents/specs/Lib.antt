-- The rows that look into parts (docs/RULES.md, S26 to S29, S32, S33, S55 to S57).
pub mod Nodes
pub mod Contents
pub mod Claims
pub mod Faults
