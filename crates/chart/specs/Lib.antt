-- What the contracts of the chart cite.
pub mod Layout
pub mod ByEnds
pub mod Counted
pub mod Rows
