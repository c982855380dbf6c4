-- Laws of the lines.
pub mod TextLaws
pub mod ReadLaws
