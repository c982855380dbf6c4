-- Laws of reading by a flat text.
pub mod RootLaws
pub mod TreesLaws
pub mod OutcomeLaws
pub mod RefusalLaws
pub mod UniqueLaws
pub mod ExactLaws
