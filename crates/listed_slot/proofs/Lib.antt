-- Laws of a slot with its list.
pub mod FollowingLaws
pub mod ServingLaws
