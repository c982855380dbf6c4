-- Laws that the crates above cite.
pub mod RowLaws
pub mod HighestLaws
pub mod OrderLaws
