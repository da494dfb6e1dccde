-- Laws of the container: what well-formedness says, the round trip between bytes and parts, what judging a buffer
-- answers and what is then known, the view of the bytes that changes go by, and the bytes by position.
pub mod WellFormed
pub mod RoundTrip
pub mod JudgingLaws
pub mod ChunkLaws
pub mod KnownLaws
pub mod ViewLaws
pub mod ByteLaws
pub mod Claims
