-- Laws of sheets.
pub mod RefusalLaws
pub mod LineLaws
pub mod InTurnLaws
pub mod SummedLaws
pub mod OutcomeLaws
pub mod AnswerLaws
pub mod WalkLaws
pub mod TurnedLaws
