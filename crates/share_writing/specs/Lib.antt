-- What the share writers' functions hand to each other.
pub mod Facts
