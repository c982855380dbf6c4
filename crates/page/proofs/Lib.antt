-- Laws of the page.

pub mod RightLaws
pub mod OutcomeLaws
pub mod AnswerLaws
pub mod UniqueLaws
pub mod LinesLaws
