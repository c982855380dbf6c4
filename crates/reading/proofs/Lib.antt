-- Lemmas of reading.
pub mod Lines
