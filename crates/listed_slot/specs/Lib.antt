-- What the contracts of a slot with its list cite beside its rules.
pub mod Following
