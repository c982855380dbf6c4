-- Laws of the character class grammar of a grammar.
pub mod ConflictFreeLaws
pub mod FlatLaws
pub mod FlatClassLaws
pub mod VisserLaws
pub mod AlikeLaws
pub mod TableLaws
pub mod TestsLaws
pub mod BookLaws
pub mod TableTextLaws
pub mod FlatWrittenLaws
pub mod AnswerLaws
pub mod SameFrontLaws
pub mod SpelledGrammarLaws
pub mod TurnedLaws
