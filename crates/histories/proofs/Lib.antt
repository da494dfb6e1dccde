-- Laws of histories, and the proofs of what is claimed of them.
pub mod Sides
pub mod Follows
pub mod Steps
pub mod Demand3
pub mod Incident
