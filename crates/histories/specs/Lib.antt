-- Histories of requests on one container (docs/RULES.md, H1 to H15).
pub mod Runs
pub mod Accepted
pub mod Claims
pub mod Incident
