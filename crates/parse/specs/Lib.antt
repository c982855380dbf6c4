-- What the contracts of parsing cite.
pub mod Outcome
