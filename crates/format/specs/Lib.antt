-- The container's format, and the parts that a container is read into.
pub mod Layout
pub mod Container
pub mod Parts
pub mod Claims
pub mod Judging
pub mod View
