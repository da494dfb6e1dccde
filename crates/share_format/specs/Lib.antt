-- The layout of a share, SDMF or MDMF (docs/RULES.md, S1 to S15, S31, S34, S40, S41, S45 to S51, S53).
pub mod Bounds
pub mod Header
pub mod Parts
pub mod Editions
pub mod Facts
pub mod Claims
