-- What the contracts of the lines cite.
pub mod Lines
pub mod Joined
