-- What the contracts of a grammar's character classes cite.
pub mod Classes
pub mod Canonical
