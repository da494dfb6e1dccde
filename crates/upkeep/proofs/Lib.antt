-- Laws of the upkeep's code.
pub mod AuditLaws
pub mod SweepLaws
