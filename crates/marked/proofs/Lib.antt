-- The marked cases hold.

pub mod CaseTests
pub mod CaseLaws
pub mod PromisedLaws
pub mod Marked
