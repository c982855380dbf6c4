-- What the contracts of the grammar's bytes cite.
pub mod Check
pub mod Equal
pub mod Formed
pub mod Turned
