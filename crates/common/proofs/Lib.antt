-- Laws that the crates above share.

pub mod AllLaws
pub mod BoolLaws
pub mod BelowLaws
pub mod ProductLaws
pub mod FillLaws
pub mod ListLaws
pub mod OverwrittenLaws
pub mod RegionLaws
pub mod ZeroLaws
