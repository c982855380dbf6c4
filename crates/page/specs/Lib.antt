-- What the contracts of the page cite.
pub mod Answer
