-- What the share writers do (docs/RULES.md, S40, S42 to S44, S53, S58, D1, D8, P21 to P29, P45 to P54).
pub mod Writing
pub mod Claims
pub mod Edges
