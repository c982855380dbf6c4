-- What the contracts of the character classes cite.
pub mod Set
pub mod Runs
pub mod Sought
