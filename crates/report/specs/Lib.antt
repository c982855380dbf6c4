-- What the contracts of the printing cite.
pub mod Lines
