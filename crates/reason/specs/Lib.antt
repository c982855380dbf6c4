-- What the contracts of the question for the reason cite.
pub mod Reason
pub mod Side
