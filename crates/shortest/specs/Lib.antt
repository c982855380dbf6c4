-- What the contracts of the shortest chain cite.
pub mod Chain
pub mod Written
pub mod Search
