-- What the contracts of the replies cite.
pub mod Reply
pub mod Answers
