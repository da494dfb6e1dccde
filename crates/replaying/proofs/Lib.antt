-- Laws about the text of a replay file.
pub mod TextLaws
pub mod ItemLaws
pub mod WordLaws
