-- Laws of the replies.
pub mod ReplyLaws
pub mod AnswersLaws
