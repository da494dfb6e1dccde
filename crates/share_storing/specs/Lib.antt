-- A share's header stored (docs/RULES.md, S9 to S12, S41).
pub mod Facts
