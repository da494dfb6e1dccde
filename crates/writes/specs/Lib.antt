-- What the contracts of this crate cite beside the rules.
pub mod Sizes
pub mod Stretch
pub mod Rewrite
