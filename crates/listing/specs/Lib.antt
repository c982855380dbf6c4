-- What the contracts of checking a listing cite.
pub mod Judge
pub mod Answer
pub mod Parts
