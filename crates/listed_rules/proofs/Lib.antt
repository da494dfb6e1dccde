-- Proofs of what is claimed of a slot with its list.
pub mod BesideLaws
pub mod GoodLaws
pub mod Demand1
pub mod Secrets
pub mod Demand2
pub mod Steps
pub mod RunLaws
pub mod Demand3
pub mod Gap
pub mod EdgeTable
