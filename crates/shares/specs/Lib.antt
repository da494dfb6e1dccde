-- The check of a share, SDMF or MDMF, and what holds of check and writers together (docs/RULES.md, S30 to S40, S52,
-- D8).
pub mod Share
pub mod Claims
pub mod Edges
