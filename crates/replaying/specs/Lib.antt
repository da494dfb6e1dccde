-- What the text of a replay file says.
pub mod Scanning
pub mod Numerals
pub mod Items
pub mod Commands
pub mod Faults
