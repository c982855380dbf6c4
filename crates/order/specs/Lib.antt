-- What the contracts of comparing counts cite.
pub mod Order
pub mod Rows
