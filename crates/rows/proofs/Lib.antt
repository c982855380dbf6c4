-- Laws of the rows.

pub mod RowsLaws
pub mod WalkLaws
pub mod TableLaws
pub mod BuiltLaws
pub mod UnderLaws
