-- Laws of what is prepared.
pub mod PreparedLaws
