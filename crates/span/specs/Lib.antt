-- What the contracts of a span cite.
pub mod Span
pub mod Tables
