-- Laws of the priorities.
pub mod ChainLaws
pub mod TableLaws
pub mod CoverLaws
pub mod PriorityLaws
pub mod CheckLaws
pub mod ConflictLaws
pub mod SpelledLaws
pub mod StageLaws
pub mod BodiesStageLaws
pub mod RefusalLaws
pub mod DeclarationLaws
pub mod SameFrontLaws
pub mod SpelledGrammarLaws
pub mod TurnedLaws
