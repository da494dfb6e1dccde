-- What the list's contracts cite beside the list itself.
pub mod Spans
pub mod Tables
