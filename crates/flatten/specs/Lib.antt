-- What the contracts of flattening cite.
pub mod Trees
pub mod Reading
pub mod Flat
pub mod Tables
pub mod Answer
pub mod Visser
