-- What the contracts of refusals cite.
pub mod Fault
pub mod Verdict
