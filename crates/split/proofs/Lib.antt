-- Laws of lines.
pub mod LinesLaws
pub mod JoinedLaws
