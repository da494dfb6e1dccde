-- A slot with its never-written list (docs/RULES.md, N9, N13 to N15, D11, D12, D14 to D16).
pub mod Outcomes
pub mod Claims
pub mod Runs
pub mod Histories
pub mod Gap
pub mod Edges
