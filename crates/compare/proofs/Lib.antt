-- Laws that the crates above cite.
pub mod UsesLaws
pub mod AnswerLaws
pub mod RefusalLaws
pub mod OneLaws
