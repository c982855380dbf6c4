-- Definitions that the crates above share.
pub mod Below
pub mod Lists
pub mod Region
pub mod Zeros
pub mod Bytes
