-- Laws of a grammar's character classes.
pub mod ClassesLaws
pub mod CanonicalLaws
