-- Laws of audits and sweeps, and the proofs of what is claimed of them.
pub mod AuditLaws
pub mod SweepLaws
pub mod LeftLaws
pub mod NumberLaws
pub mod Audit
pub mod Sweep
pub mod Secrets
pub mod EdgeTable
