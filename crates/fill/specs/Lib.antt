-- What the contracts of filling cite.
pub mod Filling
pub mod Tables
