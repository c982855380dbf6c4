-- What the contracts of the written form's reader cite.
pub mod Form
pub mod Step
pub mod Read
pub mod Corners
