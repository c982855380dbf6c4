-- What the contracts of reading by a flat text cite.
pub mod Outcome
