-- What the contracts of comparing two parses cite.
pub mod Uses
pub mod Answer
pub mod Refusals
