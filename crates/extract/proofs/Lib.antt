-- Laws of the extraction.
pub mod CellLaws
pub mod ArgumentLaws
pub mod SplitLaws
pub mod WalkLaws
pub mod WritingLaws
pub mod StepLaws
