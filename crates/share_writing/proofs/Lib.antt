-- Laws for the proofs of the share writers: parts one behind the other, room for them, their sizes, the verdict.
pub mod PartLaws
pub mod RoomLaws
pub mod SizeLaws
pub mod VerdictLaws
