-- What the contracts of loading a flat text cite.
pub mod Absent
pub mod Check
pub mod Held
