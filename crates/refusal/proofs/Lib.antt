-- Laws of refusals.
pub mod FaultLaws
pub mod VerdictLaws
