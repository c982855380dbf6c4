-- What the contracts of the stored cases' input cite.
pub mod Fields
