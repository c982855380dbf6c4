-- Laws of a column.

pub mod ScatteredLaws
pub mod SumsLaws
