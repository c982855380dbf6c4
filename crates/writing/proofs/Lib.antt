-- Laws of writing into a lent buffer, and of numerals.

pub mod PutLaws
pub mod NumeralLaws
pub mod DigitsLaws
pub mod AnswerLaws
