-- What the contracts of the empty span cite.
pub mod Empty
pub mod Turns
