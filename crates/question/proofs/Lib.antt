-- Laws of the conflict question.
pub mod AnswerLaws
