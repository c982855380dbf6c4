-- What the contracts of the rows cite.
pub mod Rows
pub mod Table
pub mod Walk
pub mod Under
