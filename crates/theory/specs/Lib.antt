-- Definitions of parse trees, and of counting them.
pub mod Tree
pub mod Grammar
pub mod Counts
pub mod Steps
pub mod Paths
