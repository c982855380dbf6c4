-- Laws of the engine.
pub mod RootLaws
pub mod EngineLaws
pub mod UniqueLaws
pub mod AnswerLaws
pub mod RefusalsLaws
pub mod OutcomeLaws
pub mod SameParsingLaws
