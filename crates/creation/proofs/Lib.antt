-- Laws of a fresh container.
pub mod FreshLaws
