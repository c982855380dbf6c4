-- What the contracts of the calls cite.
pub mod Viewer
pub mod Flat
pub mod Page
pub mod Sheet
pub mod Reason
pub mod Compare
