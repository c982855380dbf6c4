-- What the contracts of the links cite.
pub mod Linked
