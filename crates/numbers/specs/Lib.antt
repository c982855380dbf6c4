-- What the contracts of reading and writing numbers cite.
pub mod Numbers
pub mod Written
