-- Laws of the links.
pub mod LinkedLaws
