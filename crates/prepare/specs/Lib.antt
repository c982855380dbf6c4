-- What the contracts of preparing cite.
pub mod Prepared
