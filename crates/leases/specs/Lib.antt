-- What the lease code's contracts cite beside the rules.
pub mod Places
pub mod Changes
pub mod Operations
