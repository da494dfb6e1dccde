-- What is lent to the crates above, and what may be asked where the container is lent for reading only.
pub mod Data
pub mod Looking
