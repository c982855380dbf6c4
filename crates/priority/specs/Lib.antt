-- What the contracts of the priorities and of the whole check cite.
pub mod Chain
pub mod Priorities
pub mod Spelled
pub mod Check
pub mod Refusals
pub mod Conflict
