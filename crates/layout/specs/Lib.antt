-- What the contracts of a grammar's layout cite.
pub mod Limits
pub mod Layout
pub mod Framed
