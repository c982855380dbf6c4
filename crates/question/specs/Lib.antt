-- What the contracts of the conflict question cite.
pub mod Answer
