-- What the contracts of the engine cite.
pub mod Refusals
pub mod Outcome
pub mod Roots
