-- What the contracts of the lines cite; and what can be read back from a line.
pub mod Text
pub mod Read
