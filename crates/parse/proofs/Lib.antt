-- Laws of parsing.
pub mod CarryLaws
pub mod OutcomeLaws
pub mod RefusalLaws
pub mod NumberLaws
pub mod AnswerLaws
pub mod TurnedLaws
