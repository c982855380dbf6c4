-- What the contracts of the sheet cite.
pub mod Refusals
pub mod Outcome
pub mod Walk
