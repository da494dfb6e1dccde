-- What the checker answers, demand 1 of it, and the round trips of checker and writers.
pub mod ShareLaws
pub mod Demand1
pub mod RoundTrip
pub mod EdgeTable
