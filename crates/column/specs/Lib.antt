-- What the contracts of a column cite.
pub mod Sums
pub mod Scattered
