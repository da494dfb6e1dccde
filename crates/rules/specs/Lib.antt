-- The rules: what a request's bytes ask, and what becomes of container and reply space.
pub mod Requests
pub mod Testing
pub mod Writing
pub mod Sizes
pub mod Changes
pub mod Leasing
pub mod Outcomes
pub mod Refusals
pub mod Offsets
pub mod Claims
pub mod Stretch
pub mod Slack
pub mod Edges
