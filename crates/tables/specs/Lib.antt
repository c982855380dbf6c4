-- What the contracts of the flat tables cite.
pub mod Layout
pub mod Theory
pub mod Put
