-- The rows that need only numbers (docs/RULES.md, S23 to S25, S54).
pub mod Coding
pub mod Order
