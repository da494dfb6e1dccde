-- What the verdict's contracts cite beside the rules.
pub mod Writing
