-- Laws of lists, and the proofs of what is claimed of them.
pub mod MemberLaws
pub mod ShapeLaws
pub mod UnwrittenLaws
pub mod ByteLaws
pub mod Claims
